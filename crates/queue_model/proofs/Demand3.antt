pub mod Restored
pub mod Records
pub mod Peel
pub mod New
pub mod Theorem
