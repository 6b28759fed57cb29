pub mod Causes
pub mod Memory
pub mod MonitorLines
pub mod Monitors
pub mod Shelves
pub mod Sinks
