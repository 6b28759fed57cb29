pub mod Changing
pub mod GoingBack
