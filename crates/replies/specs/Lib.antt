pub mod Written
pub mod WrittenLaws
pub mod TurnLaws
