pub mod Tree
pub mod Outcome
pub mod Steps
pub mod Silent
pub mod Marks
pub mod Trails
