pub mod Realizations
