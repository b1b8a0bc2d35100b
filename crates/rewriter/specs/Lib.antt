pub mod Accepted
pub mod Additions
pub mod Copying
pub mod Fronts
pub mod HasParts
pub mod RoundTrips
