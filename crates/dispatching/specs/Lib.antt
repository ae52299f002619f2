pub mod Ready
pub mod Pick
pub mod Board
pub mod Entry
pub mod Dispatcher
pub mod Closed
pub mod Readies
