pub mod Lengths
pub mod Turned
