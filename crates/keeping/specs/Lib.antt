pub mod Stage
pub mod Begun
pub mod Record
