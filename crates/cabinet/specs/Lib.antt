pub mod Printed
pub mod ReadLaws
pub mod PrintedLaws
pub mod PrintedCases
