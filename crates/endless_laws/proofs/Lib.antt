pub mod KeptRows
pub mod KeptForms
pub mod LateRows
pub mod WalksToDues
