pub mod Distance
pub mod WalkLists
