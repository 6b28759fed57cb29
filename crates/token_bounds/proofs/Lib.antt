pub mod Holding
pub mod Alone
