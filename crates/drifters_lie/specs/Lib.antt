-- What a reader must believe of the Lie groups.
pub mod Lie
