-- Request 13/13 on the words and stores that the calls leave. Assumes nothing.
pub mod Jobs
pub mod FirstFragments
pub mod Plans
