-- The definitions that the contracts cite: keys, walks over a message, readiness. Assumes nothing.
pub mod Keys
pub mod Walks
pub mod Readiness
