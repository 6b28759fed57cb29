pub mod AnchorLaws
pub mod Anchors
pub mod Canonical
pub mod Closed
pub mod DioidOfForms
pub mod FormLaws
pub mod FormValues
pub mod FunctionLaws
pub mod Items
pub mod LeastForms
pub mod Lefts
pub mod Products
pub mod ProductsRepeat
pub mod Repeating
pub mod ResidualsRepeat
pub mod Shifts
pub mod StarForms
pub mod StarParts
pub mod StarsRepeat
pub mod Sums
pub mod SumsRepeat
pub use Rattle.number_laws.proofs as number_laws_proofs
pub use Rattle.dioid.proofs as dioid_proofs
