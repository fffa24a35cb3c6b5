-- What a reader must believe of vectors.
pub mod Vec3
