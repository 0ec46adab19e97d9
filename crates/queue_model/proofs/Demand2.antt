pub mod Rust
pub mod Images
pub mod Bytes
