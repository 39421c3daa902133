pub mod OfKind
pub mod Steps
pub mod Grammar
