-- What discarding and closing promise: the words, and the model's step. Assumes nothing.
pub mod Meets
