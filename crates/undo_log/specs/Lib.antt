-- Definitions that the contracts cite. Assumes nothing.
pub mod Log
