pub mod Queue
pub mod QueueLaws
pub mod PlaceLaws
pub mod Bodies
pub mod Legal
pub mod LegalLaws
