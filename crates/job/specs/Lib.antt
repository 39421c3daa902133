pub mod Jobs
pub mod JobLaws
pub mod Layers
pub mod PinLaws
pub mod BanLaws
