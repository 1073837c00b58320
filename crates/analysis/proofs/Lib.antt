pub mod Running
pub mod Peaks
pub mod Searched
pub mod Columns
pub mod Verdicts
