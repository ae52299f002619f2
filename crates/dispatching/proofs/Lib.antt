pub mod Readies
pub mod Marks
pub mod Boards
pub mod Chosen
