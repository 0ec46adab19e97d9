-- What adding to an owned queue asks and promises. Assumes nothing.
pub mod Add
