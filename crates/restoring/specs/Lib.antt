-- What restoring leaves, part by part, for every input. Assumes nothing.
pub mod Streams
pub mod Messages
pub mod Recall
