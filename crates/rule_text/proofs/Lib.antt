pub mod Lines
pub mod Bounds
pub mod Spelling
pub mod Returning
