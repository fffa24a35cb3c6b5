-- What a reader must believe of matrices.
pub mod Matrix
pub mod Shapes
