pub mod Refusals
pub mod Width
