pub mod WholeLines
pub mod Texts
pub mod FaultyLines
pub mod ShortLines
pub mod Opening
pub mod Starts
pub mod Answered
pub mod Expectations
