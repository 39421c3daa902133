pub mod Standing
pub mod Table
pub mod Readings
pub mod Rows
pub mod Steps
