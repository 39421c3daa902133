pub mod Sheets
pub mod Boxes
