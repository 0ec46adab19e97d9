-- What asking for the ready ids and the whole-queue reset leave, for every input. Assumes nothing.
pub mod Marking
pub mod ReadyStreams
pub mod Ready
pub mod Reset
pub mod Settled
