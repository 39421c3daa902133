pub mod Readings
pub mod Weighing
pub mod Meaning
pub mod Laws
pub mod Fold
pub mod Marks
pub mod Grown
pub mod Items
