-- The proofs of the demands.
pub mod Null
pub mod Decision
pub mod Mirrored
pub mod Choice
pub mod Compasses
pub mod Sheets
pub mod Upgrade
pub mod First
pub mod Second
pub mod Equality
pub mod Turning
pub mod Third
