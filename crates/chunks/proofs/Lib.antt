-- Laws of chunks. Assumes nothing.
pub mod Sizes
pub mod Marks
pub mod WriteCases
pub mod ReadCases
pub mod Laid
pub mod Back
pub mod Canonical
pub mod Theorems
pub mod Meets
pub mod Fitting
