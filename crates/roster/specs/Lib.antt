pub mod Multiple
pub mod Feeds
pub mod Roster
pub mod Margin
pub mod Measure
pub mod Shares
pub mod Words
