pub mod ShownReleases
pub mod ShownLate
pub mod ReleaseWalks
