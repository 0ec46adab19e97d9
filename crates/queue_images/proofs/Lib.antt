-- Every saved image is accepted by a new queue created alike.
pub mod Demand2
pub mod Unbroken
pub mod Stays
pub mod Listed
