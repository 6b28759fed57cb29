pub mod Cuts
pub mod Leads
pub use Rattle.series_laws.specs as series_laws
pub use Rattle.series_form.specs as series_form
pub use Rattle.series_ops.specs as series_ops
