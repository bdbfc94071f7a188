mod Building
pub mod Among
pub mod Cuts
pub mod Found
