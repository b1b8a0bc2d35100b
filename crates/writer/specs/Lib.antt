pub mod HasParts
pub mod HeldLaws
pub mod Tests
pub mod Writer
pub mod WriterLaws
