pub mod Following
pub mod DayTotals
