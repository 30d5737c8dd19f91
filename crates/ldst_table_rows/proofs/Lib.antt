-- Laws that belong to no one function.
pub mod RowLaws
pub mod ClassLaws
pub mod NameLaws
