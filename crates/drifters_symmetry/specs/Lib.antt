-- What a reader must believe: one file for each file of the original.
pub mod Group
pub mod Lift
pub mod Linear
