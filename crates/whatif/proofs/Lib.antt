pub mod BestCuts
pub mod EachChange
