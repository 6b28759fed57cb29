pub mod WhyNotLeft
pub mod LeftLists
pub mod Histories
pub mod LeftRows
