pub mod Addable
pub mod AdditionLaws
pub mod WriterCases
