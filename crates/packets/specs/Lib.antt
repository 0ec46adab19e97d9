-- Packets on the wire. Assumes nothing.
pub mod PacketFilled
pub mod Filling
pub mod Answers
