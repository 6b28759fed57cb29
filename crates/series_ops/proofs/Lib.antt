pub mod BegunLaws
pub mod FirstValues
pub mod JumpLaws
pub mod LeftParts
pub mod LeftSplits
pub mod LeftValues
pub mod Many
pub mod PieceLaws
pub mod ProductPlans
pub mod Refusing
pub mod ScaleLaws
pub mod Scales
pub mod ShortLaws
pub mod SplitLaws
pub mod StarValues
pub mod StrideLaws
pub mod StrideSums
pub use Rattle.series_form.proofs.number_laws_proofs as number_laws_proofs
pub use Rattle.dioid.proofs as dioid_proofs
pub use Rattle.series_laws.proofs as series_laws_proofs
pub use Rattle.series_form.proofs as series_form_proofs
