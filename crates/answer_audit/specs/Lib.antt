pub mod AnswerFindings
pub mod RowFiles
pub mod Audits
