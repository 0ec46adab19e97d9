-- Refusal 16 on the queues and receivers that calls lead to. Assumes nothing.
pub mod Shows
pub mod NoSixteen
