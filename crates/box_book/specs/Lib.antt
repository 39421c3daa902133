pub mod Causes
pub mod Places
pub mod Meaning
pub mod Readings
pub mod Runs
pub mod Books
pub mod Laws
pub mod Finds
