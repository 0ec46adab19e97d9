-- Laws of the published contracts. Assumes nothing.
pub mod Restarts
