pub mod GoneOn
pub mod Jumping
pub mod Joining
pub mod Ordered
pub mod InRuns
pub mod ReadColumns
pub mod PastLimit
