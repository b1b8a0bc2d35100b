pub mod Meaning
pub mod Lent
pub mod Changes
pub mod HostChanges
pub mod QueueChanges
pub mod SpaceChanges
pub mod TupleChanges
pub mod RecordChanges
