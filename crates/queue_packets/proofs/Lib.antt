-- Request 5/13 on the code.
pub mod Fit
pub mod Packets
