pub mod Moved
pub mod Leading
pub mod Logged
