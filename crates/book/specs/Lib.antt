pub mod Books
pub mod JobViews
pub mod Columns
pub mod Totalled
