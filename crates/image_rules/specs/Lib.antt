-- The rules of a changeover image, by positions in its bytes. Assumes nothing.
pub mod Trailers
pub mod Streams
pub mod Messages
pub mod Amounts
pub mod Cursor
pub mod Code
