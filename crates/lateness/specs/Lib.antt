pub mod Sums
pub mod Schedule
pub mod Cover
pub mod Bound
pub mod Instances
pub mod Witness
