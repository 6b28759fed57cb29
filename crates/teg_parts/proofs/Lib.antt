pub mod Adding
pub mod Marks
pub mod Reaching
pub mod Ordering
pub mod Rooted
pub mod NumberingSteps
pub mod OneParts
