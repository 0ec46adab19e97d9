-- The next fragment is the model's.
pub mod Looking
pub mod Numbering
pub mod Enough
pub mod Further
pub mod Part
pub mod Last
pub mod Expired
pub mod Sent
pub mod Passing
pub mod Numbers
pub mod Produces
pub mod After
pub mod Settled
