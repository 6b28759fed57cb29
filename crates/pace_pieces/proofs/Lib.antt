pub mod LineLaws
pub mod Short
pub mod Following
