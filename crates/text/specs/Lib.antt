pub mod Lines
pub mod LineCases
pub mod Written
pub mod ReadLaws
pub mod FitLaws
