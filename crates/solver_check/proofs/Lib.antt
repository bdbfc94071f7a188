mod SameReports
mod OfPaths
mod Refusing
mod Judging
pub mod Unserved
