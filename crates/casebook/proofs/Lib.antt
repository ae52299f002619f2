pub mod Counting
pub mod Joined
pub mod Checked
