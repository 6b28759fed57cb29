pub mod Ends
pub mod Stops
pub mod Straight
pub mod Taking
pub mod Splitting
pub mod Through
pub mod Again
pub mod Visits
