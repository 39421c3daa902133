pub mod Output
pub mod Words
