-- Every list of the handler's calls and other calls is the model's; request 9/13. Assumes nothing.
pub mod Ties
pub mod Links
pub mod Refusals
pub mod AsCalls
pub mod Request9
