pub mod Findings
pub mod FirstSaid
pub mod Forced
pub mod Members
pub mod Rows
