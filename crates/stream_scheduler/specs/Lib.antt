pub mod Rows
pub mod Words
pub mod Anew
pub mod Link
pub mod Own
