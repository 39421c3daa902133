pub mod Writing
pub mod Padding
pub mod Back
