-- What the next fragment is and what it leaves, for every input. Assumes nothing.
pub mod Produced
pub mod Look
pub mod NextStep
pub mod Data
pub mod Numbers
pub mod Choice
pub mod Progress
pub mod Fragment
pub mod Produce
pub mod Next
pub mod Passing
pub mod Own
pub mod Answers
