pub mod Told
pub mod Machine
pub mod Run
pub mod Law
pub mod Example
pub mod Words
