pub mod Formulas
pub mod ShownBounds
