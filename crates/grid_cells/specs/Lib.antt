pub mod Cell
pub mod Size
pub mod Grid
pub mod Walks
pub mod Laws
