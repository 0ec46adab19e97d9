-- What creating a queue and adding a message promise of the queue that the words stand for. Assumes nothing.
pub mod Create
pub mod Message
pub mod Add
pub mod Settled
