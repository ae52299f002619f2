pub mod Insert
pub mod Largest
pub mod Ranks
pub mod Shift
