pub mod Spans
pub mod Steps
pub mod Chains
