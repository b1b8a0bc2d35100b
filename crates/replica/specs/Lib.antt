pub mod Asks
pub mod HandleLaws
pub mod StatementLaws
pub mod StepLaws
pub mod TakeLaws
