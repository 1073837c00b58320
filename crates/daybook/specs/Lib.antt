pub mod BuiltIn
pub mod Letters
