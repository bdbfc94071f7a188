pub mod Filing
pub mod Index
pub mod Links
pub mod Parts
pub mod Pieces
pub mod Seeking
