pub mod Placed
pub mod Read
