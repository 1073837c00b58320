pub mod OneMore
pub mod Places
pub mod ServeRules
pub mod Longest
