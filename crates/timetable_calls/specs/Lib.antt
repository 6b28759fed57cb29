pub mod Earliest
pub mod FractionPeriods
pub mod Departures
pub mod LeastFirsts
