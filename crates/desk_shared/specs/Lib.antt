pub mod Passes
pub mod Calls
pub mod Turns
pub mod Laws
pub mod Numbers
pub mod Windows
