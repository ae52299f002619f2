pub mod LeastTest
pub mod Checked
