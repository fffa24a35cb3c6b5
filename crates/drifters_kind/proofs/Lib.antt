-- What is known of every kind, by its number and its lengths.
pub mod ByNumber
