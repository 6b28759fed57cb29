pub use Rattle.date_rows.specs as date_rows
pub use Rattle.teg_form.specs as teg_form
