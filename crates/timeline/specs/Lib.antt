pub mod Past
pub mod Timelines
pub mod Obeyed
