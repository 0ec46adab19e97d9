-- What creating a queue, adding a message and discarding one leave, for every input. Assumes nothing.
pub mod Create
pub mod Message
pub mod Add
pub mod Discard
