pub mod Telling
pub mod Apart
pub mod Leading
pub mod Parts
pub mod Gathered
