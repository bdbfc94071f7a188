pub mod Ranges
pub mod Lines
pub mod Reading
pub mod Begun
pub mod Places
pub mod Laws
pub mod Fitting
