pub mod State
pub mod Counts
pub mod Verdicts
pub mod Outcomes
pub mod Sameness
pub mod Meaning
pub mod Runs
pub mod Trails
