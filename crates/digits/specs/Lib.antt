pub mod Put
pub mod DecimalLaws
pub mod PutLaws
