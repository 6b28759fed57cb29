pub mod Attained
pub mod Greatest
