-- Laws of going over the known streams, and the links of the calls that restart streams.
pub mod Sweeps
pub mod Tallies
pub mod Turns
pub mod Closings
pub mod Reopens
pub mod Begins
pub mod Switches
pub mod Collects
pub mod Marks
pub mod Backs
pub mod Composes
pub mod Wholes
pub mod WholeQueue
pub mod Contracts
