pub mod Steps
pub mod Signs
