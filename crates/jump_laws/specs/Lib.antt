pub mod Jumps
pub mod ListedJumps
pub mod Runs
