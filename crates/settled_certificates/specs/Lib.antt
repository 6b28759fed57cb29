pub mod SettledWindows
pub mod ToldForms
pub mod SettledRows
pub mod ShortestRows
pub mod StepsLeft
