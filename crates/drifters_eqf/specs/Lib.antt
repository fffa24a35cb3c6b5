-- What a reader must believe: the filter, and the answers.
pub mod Answer
pub mod Filter
