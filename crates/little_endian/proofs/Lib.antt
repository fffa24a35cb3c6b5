-- The laws that the proofs of the functions cite.
pub mod Placed
pub mod Numbers
