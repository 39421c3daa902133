pub mod Rules
pub mod Storage
