-- What the payloads and the sums are. Assumes nothing.
pub mod Payload
