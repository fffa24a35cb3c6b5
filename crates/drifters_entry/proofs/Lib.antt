-- The laws that the proofs of the functions cite, and the round trips between runs and records.
pub mod RoundTrips
pub mod Parts
pub mod Calls
pub mod KindLaws
