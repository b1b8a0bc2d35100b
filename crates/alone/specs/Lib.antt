pub mod Alone
pub mod Tests
