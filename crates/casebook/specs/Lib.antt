pub mod Calls
pub mod Right
pub mod Words
