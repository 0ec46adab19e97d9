pub mod Views
pub mod Heads
pub mod Ledger
pub mod Order
