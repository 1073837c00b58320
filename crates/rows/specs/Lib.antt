pub mod Kept
pub mod Making
