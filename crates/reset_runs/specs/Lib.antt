-- Lists of calls on a queue and its stream reset handler, made of the definitions that the contracts cite, and request 9/13 of them. Assumes nothing.
pub mod Uses
pub mod Refusals
pub mod AsCalls
pub mod Request9
