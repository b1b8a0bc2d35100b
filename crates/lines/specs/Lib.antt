pub mod WrittenLaws
pub mod LoopLaws
