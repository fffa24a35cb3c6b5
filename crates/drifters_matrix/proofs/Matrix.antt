-- The laws of matrices as flat lists.
pub mod Tab
pub mod Grid
pub mod RowStart
pub mod Elements
pub mod Folds
pub mod Sums
pub mod Skips
pub mod Columns
pub mod Made
pub mod Block
pub mod ByColumns
pub mod Mirror
pub mod Theorems
