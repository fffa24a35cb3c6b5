-- What a reader must believe of the scalars, the form of the tables of readings, and, in Limbs, the predicates of private contracts.
pub mod Scalar
pub mod Real
pub mod Reading
pub mod Limbs
