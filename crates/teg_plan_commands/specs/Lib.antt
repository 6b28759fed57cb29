pub mod Jit
pub mod Replay
