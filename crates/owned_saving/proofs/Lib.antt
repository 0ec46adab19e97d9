-- What the totals of a queue say of its image, and the call's returns. Assumes nothing.
pub mod Counts
