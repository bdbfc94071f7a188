pub mod Feeds
pub mod Commits
pub mod Growing
pub mod Cuts
pub mod Digests
