pub mod Lines
pub mod Text
pub mod Reads
pub mod Crashes
pub mod Laws
