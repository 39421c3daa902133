pub mod CellSteps
pub mod Cuts
pub mod Lines
