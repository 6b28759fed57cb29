pub mod CertifiedLines
pub mod DateLines
pub mod Growth
