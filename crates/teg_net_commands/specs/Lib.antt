pub mod Calc
pub mod Check
pub mod Form
pub mod Migrate
