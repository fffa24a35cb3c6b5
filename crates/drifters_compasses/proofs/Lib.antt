-- The laws that the proofs of the functions cite, and the bounds of how many readings are tried.
pub mod Tried
pub mod Tries
pub mod Calls
