pub mod Pairs
pub mod NoticeLaws
pub mod PairLaws
pub mod Walks
