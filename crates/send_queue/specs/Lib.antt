-- What the calls promise, published under one name: a crate above the queue names these modules and no other of the queue's. Assumes nothing.
pub mod Call
pub mod Number
pub mod ReadyStreams
pub mod Queue
pub mod Restarts
