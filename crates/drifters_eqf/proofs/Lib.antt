-- That refusals differ by their numbers.
pub mod Refusals
