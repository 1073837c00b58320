pub mod Lists
pub mod Jobs
pub mod Rules
pub mod Records
pub mod Days
pub mod Promise
pub mod Views
