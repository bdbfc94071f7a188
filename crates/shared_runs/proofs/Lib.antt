mod SameWindow
mod ScriptSessions
mod Numbering
mod Gathering
mod ScriptFaults
mod Drilled
mod Sitting
mod Joining
mod Seen
mod KeptLog
mod Scribing
pub mod Sent
