-- Fillings in lists of calls, by the calls for the next fragment that they are made of. Assumes nothing.
pub mod Same
pub mod Separate
pub mod Calls
pub mod Expanded
pub mod Closing
pub mod Restart
