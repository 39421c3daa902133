pub mod Back
pub mod Going
pub mod Placing
