pub mod Spelling
pub mod Causes
pub mod Lists
