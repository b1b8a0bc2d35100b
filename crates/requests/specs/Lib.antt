pub mod Asking
pub mod BodyLaws
pub mod OpenLaws
