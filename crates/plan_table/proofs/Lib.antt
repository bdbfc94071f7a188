pub mod Rows
pub mod Order
pub mod Sets
pub mod Fleets
pub mod OneTable
pub mod Fronts
