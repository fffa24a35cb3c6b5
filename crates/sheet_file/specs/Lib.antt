-- What a reader must believe of reading a file.
pub mod Counted
