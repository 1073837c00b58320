pub mod Drafted
pub mod Judgement
pub mod Sheets
