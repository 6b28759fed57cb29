-- The proofs of the laws of gains, from those of forms. Nobody has to believe them: they are checked as every proof is. They
-- stand here since the impl cites them, and a file of specs may not name its own crate's proofs.
pub mod GainLaws
