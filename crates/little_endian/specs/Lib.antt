-- What a reader must believe of numbers in bytes and of numbers by their bits.
pub mod Bytes
pub mod Bits
