pub mod SettledWindows
pub mod ToldForms
pub mod ShortestRows
