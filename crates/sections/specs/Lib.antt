pub mod Rows
pub mod RowLaws
pub mod Loops
pub mod Shapes
pub mod FirstRows
pub mod Parts
