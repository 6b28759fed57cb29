pub mod Spanning
pub mod Listing
