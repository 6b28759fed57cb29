pub mod PaceFindings
pub mod PaceAudits
