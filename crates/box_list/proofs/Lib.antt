pub mod Taking
pub mod RowCells
pub mod Faults
pub mod Filling
pub mod Beginnings
