-- Filling a packet on the words.
pub mod Within
pub mod Places
pub mod Cases
pub mod Refused
