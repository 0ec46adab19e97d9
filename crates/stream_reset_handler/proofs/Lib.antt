-- What the contracts of the handler come to, over plain values. Of the queue they take the published contracts alone. Assumes nothing.
pub mod Makes
pub mod Handles
