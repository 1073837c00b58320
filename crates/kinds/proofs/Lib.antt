pub mod RowLaws
pub mod ArrivalLaws
pub mod OrderLaws
pub mod SectionLaws
