pub mod FieldLaws
pub mod Forms
pub mod Kinds
pub mod Stepped
