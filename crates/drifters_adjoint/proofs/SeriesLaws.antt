-- The laws of the series and of its sums by blocks, each over those before it.
pub mod Terms
pub mod Whole
pub mod Blocks
pub mod Loop
