pub mod Realizing
pub mod Periodic
