pub mod Order
pub mod Hold
pub mod Built
pub mod Chosen
pub mod Parts
