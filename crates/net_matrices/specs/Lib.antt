pub mod NetEntries
pub mod TransferStars
pub mod PlacesBetween
pub mod TransferMatrices
pub mod SettledSeries
