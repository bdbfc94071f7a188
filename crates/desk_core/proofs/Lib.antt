pub mod Versions
pub mod Reported
pub mod Recorded
pub mod Optional
