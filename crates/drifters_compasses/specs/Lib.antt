-- What a reader must believe of an update by several compasses; Kept is for private contracts only.
pub mod Compasses
pub mod Kept
