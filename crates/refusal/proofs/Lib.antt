pub mod Checks
pub mod Distinct
