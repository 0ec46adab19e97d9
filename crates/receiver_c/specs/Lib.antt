-- What the C functions give: the layout, the answers as numbers and places, and each call by its definition on the words. Assumes nothing.
pub mod Layout
pub mod Numbers
pub mod Given
