-- The theorems of the sheet, and the laws that their proofs share.
pub mod Digits
pub mod SheetLayout
pub mod Held
pub mod Lines
pub mod TextLength
pub mod Readings
