pub mod Laws
pub mod Sets
pub mod Through
pub mod Replans
pub mod Kept
pub mod Ledger
pub mod Agents
