pub mod Bursts
pub mod Reference
