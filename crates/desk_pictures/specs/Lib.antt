pub mod Growth
pub mod Pieces
pub mod Spots
pub mod Marks
