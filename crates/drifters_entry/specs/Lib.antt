-- What a reader must believe of the calls on lent runs: the filter as a run, and what a call of each kind gives.
pub mod Layout
pub mod Entry
pub mod Asked
