pub mod BodyLaws
pub mod BranchLaws
