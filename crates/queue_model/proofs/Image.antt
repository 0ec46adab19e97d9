pub mod ByteRows
pub mod ReadWrite
pub mod Saved
