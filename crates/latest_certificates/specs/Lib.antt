pub mod LatestRows
pub mod PlanRows
pub mod SolvedRows
pub mod ToldStarts
