pub mod Checks
pub mod Blocks
pub mod Names
