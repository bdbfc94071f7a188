pub mod Indexes
pub mod HeapOrder
pub mod HeapSync
pub mod HeapKeys
