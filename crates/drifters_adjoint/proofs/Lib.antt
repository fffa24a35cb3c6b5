-- The laws of the series, which the proofs of the functions cite.
pub mod SeriesLaws
