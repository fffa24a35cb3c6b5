-- The laws of signs, and the proofs of the demands, of the change-over and of the readings.
pub mod Sizes
pub mod Signs
pub mod Upgrade
pub mod Demands
pub mod Readings
pub mod ChangeOver
