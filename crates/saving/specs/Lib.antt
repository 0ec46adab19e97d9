-- What saving a queue leaves, for every input: the first pass, the records, the bytes, the call. Assumes nothing.
pub mod Measure
pub mod Sound
pub mod Records
pub mod Bytes
pub mod Saved
pub mod Save
