-- The laws that the proofs of the functions cite, and the theorems.
pub mod Real
pub mod Reading
