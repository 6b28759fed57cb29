pub mod Lagged
