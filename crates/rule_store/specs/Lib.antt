pub mod Storing
pub mod Filling
