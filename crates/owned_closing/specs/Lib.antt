-- What the owned discard and close ask for and answer. Assumes nothing.
pub mod Own
