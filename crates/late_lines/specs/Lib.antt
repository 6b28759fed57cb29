pub mod LateLines
