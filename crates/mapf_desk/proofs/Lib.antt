mod Ending
mod Unsent
mod Planners
mod HostLog
mod LogDesk
mod LogSession
pub mod FilledRows
pub mod RowsOf
