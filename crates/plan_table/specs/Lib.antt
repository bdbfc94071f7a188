pub mod Path
pub mod Plans
pub mod PlanFault
pub mod Route
pub mod Order
pub mod Sets
pub mod Laws
