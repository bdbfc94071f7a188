pub mod MapDesk
