pub mod TextRuns
pub mod Runs
pub mod Accepting
pub mod Meanings
pub mod Digits
pub mod Closing
pub mod Signs
pub mod Holding
pub mod Written
pub mod TokenSteps
pub mod Behind
pub mod Stepping
pub mod Completing
pub mod Depth
pub mod Sizes
pub mod Faults
pub mod Printed
pub mod SignedNumbers
pub mod OneAnswer
pub use Rattle.series_form.proofs as series_form_proofs
pub use Rattle.teg_text.proofs as teg_text_proofs
