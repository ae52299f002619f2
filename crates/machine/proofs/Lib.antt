pub mod Ahead
pub mod Choice
pub mod FeedTrace
pub mod Trace
pub mod Sorting
pub mod Reading
pub mod Carried
pub mod Timely
