pub mod Workable
pub mod Firsts
