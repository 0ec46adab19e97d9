-- What filling a packet from an owned queue asks and promises. Assumes nothing.
pub mod Filling
