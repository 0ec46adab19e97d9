-- Request 5/13 on the words and stores that the calls leave. Assumes nothing.
pub mod Packets
