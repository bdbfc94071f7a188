pub mod Drills
pub mod DrillFaults
pub mod Gates
pub mod Hosts
pub mod Logged
