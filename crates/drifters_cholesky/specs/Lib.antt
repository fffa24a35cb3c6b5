-- What a reader must believe of the factorisation.
pub mod Cholesky
