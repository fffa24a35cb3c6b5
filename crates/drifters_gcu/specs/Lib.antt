-- What a reader must believe of the inflation.
pub mod Gcu
