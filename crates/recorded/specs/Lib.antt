pub mod Event
pub mod Words
