pub mod Causes
pub mod Faults
pub mod Files
pub mod Form
pub mod Machine
pub mod Reader
