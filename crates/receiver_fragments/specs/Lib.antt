-- The definitions that the contracts cite: the tests, holding a fragment, the calls. Assumes nothing.
pub mod Received
pub mod Fetched
pub mod Answers
pub mod Checks
pub mod Holding
pub mod Receiving
pub mod Freeing
pub mod Fetching
pub mod Creating
