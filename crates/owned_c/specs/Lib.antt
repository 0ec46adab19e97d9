-- What the owned functions give, where their form is not that of the functions for C. Assumes nothing.
pub mod Given
