pub mod Fractions
pub mod Numbers
pub mod Pigeons
