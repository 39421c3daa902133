pub mod Cells
pub mod Rows
pub mod Text
pub mod Reader
