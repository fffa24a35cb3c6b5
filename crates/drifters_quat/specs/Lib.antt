-- What a reader must believe of quaternions.
pub mod Quat
