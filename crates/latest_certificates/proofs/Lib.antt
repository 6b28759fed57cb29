pub mod SolvedRows
pub mod PlanRows
pub mod ListedDues
