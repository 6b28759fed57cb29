pub mod Counters
pub mod CounterEquations
pub mod CountedRuns
