pub mod Calls
pub mod Checking
pub mod Handles
pub mod Numbers
pub mod Opening
pub mod Owned
pub mod Planning
pub mod Statuses
