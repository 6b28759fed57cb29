pub mod Plants
