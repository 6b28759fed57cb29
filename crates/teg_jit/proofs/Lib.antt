mod Packing
mod Transposing
mod TableCells
mod Sorting
mod Lowering
mod Back
mod Passing
mod Begun
mod Tight
mod Walking
mod Starting
mod LateWalks
mod LateRows
mod DueNumbers
pub mod Excluded
pub mod MeetOrLate
