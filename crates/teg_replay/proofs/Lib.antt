mod Columns
mod Earliest
mod Entering
mod Failing
mod InputLists
mod Latest
mod LongestHeld
mod Playing
mod Replaying
mod Shown
mod Waiting
pub use Rattle.run_laws.proofs as run_laws_proofs
