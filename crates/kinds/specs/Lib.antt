pub mod Numbers
pub mod ArrivalKinds
pub mod OrderKinds
pub mod SectionKinds
