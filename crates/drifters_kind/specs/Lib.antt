-- What a reader must believe of the kinds of call.
pub mod Kind
