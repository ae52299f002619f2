pub mod Right
pub mod Words
