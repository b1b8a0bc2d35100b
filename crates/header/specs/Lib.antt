pub mod RowLaws
pub mod Rows
pub mod StoredLaws
pub mod Whole
pub mod WholeLaws
