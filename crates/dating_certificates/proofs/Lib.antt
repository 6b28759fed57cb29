pub mod FirstRows
pub mod RowWaits
pub mod WholeRows
pub mod LeastRows
pub mod DatesUpTo
