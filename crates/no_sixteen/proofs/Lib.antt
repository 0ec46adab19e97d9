-- Refusal 16. Assumes nothing.
pub mod Calls
pub mod Saving
pub mod Handler
pub mod Leads
pub mod Receiver
pub mod NoSixteen
