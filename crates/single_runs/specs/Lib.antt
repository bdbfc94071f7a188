pub mod Opened
pub mod Runs
pub mod Sittings
pub mod Saved
pub mod Audits
pub mod Draws
pub mod PageRuns
