pub mod StoredForms
pub mod Released
pub mod Written
pub mod ShownLate
pub mod ReleaseWalks
pub mod LatestReleases
pub mod ShortestLists
