-- What a reader must believe: the covariance lines of filter.rs.
pub mod Covariance
