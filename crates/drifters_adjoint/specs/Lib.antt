-- What a reader must believe of the integrated adjoint, and the series by blocks that private contracts cite.
pub mod Adjoint
pub mod Series
