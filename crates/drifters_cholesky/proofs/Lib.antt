-- The laws of the factorisation and of the substitutions, and what the factorisation reads.
pub mod SubTerms
pub mod Factor
pub mod Substitution
pub mod Theorems
