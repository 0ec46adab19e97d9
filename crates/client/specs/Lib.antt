-- What carrying two messages through a queue promises. Assumes nothing.
pub mod Carried
