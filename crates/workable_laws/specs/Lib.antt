pub mod WorkablePeriods
