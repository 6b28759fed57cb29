pub mod Building
pub mod Releasing
pub mod DerivedNet
pub mod Planning
