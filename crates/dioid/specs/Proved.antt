-- The proofs of the laws of the two instances. Nobody has to believe them: they are checked as every proof is. They stand
-- here since the impls cite them, and a file of specs may not name its own crate's proofs.
pub mod DateLaws
pub mod FlagLaws
