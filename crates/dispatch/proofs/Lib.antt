pub mod Points
pub mod Steps
pub mod Timely
pub mod Trace
