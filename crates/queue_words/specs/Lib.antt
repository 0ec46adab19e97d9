-- The definitions that the contracts cite: rows, the header, the four tables, the search. Assumes nothing.
pub mod Rows
pub mod Flags
pub mod Header
pub mod Known
pub mod Streams
pub mod Items
pub mod Leasts
pub mod Active
pub mod Find
