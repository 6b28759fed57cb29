pub use Rattle.date_rows.proofs as date_rows_proofs
pub use Rattle.teg_form.proofs as teg_form_proofs
