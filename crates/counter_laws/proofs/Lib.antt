pub mod Lowered
pub mod Solving
pub mod Greatest
pub mod Counting
pub mod CountedRuns
