-- What a reader must believe of call sheets: layout and text, and readings of them.
pub mod Digits
pub mod Sheet
pub mod Text
pub mod Readings
