-- Tables of the same sizes and entries.
use Rattle.std.proofs.Common.{◌≡◌, ℕ, ◌*◌, ◌<◌, get_or, length, sym, ap, ◌∙◌, arith}
use Rattle.std.proofs.lemmas.List.{ext_get_or}
use Rattle.dioid.specs.declared.algebra.Dioid.{Ghosts as DioidOf}
use Rattle.dioid_matrix.specs.Tables.{IsTable, Table, table_of}

module _ {M : Type 0} (d : DioidOf M) (a b : Table M) where
  -- the first so many entries by rows are the same
  abbrev pub AreSameEntries : ℕ → Type 0
  AreSameEntries n = (k : ℕ) → k < n → get_or a.entries k d.zero ≡ get_or b.entries k d.zero

  pub same_tables : IsTable d a → IsTable d b → a.rows ≡ b.rows → a.columns ≡ b.columns → AreSameEntries (a.rows * a.columns) → a ≡ b
  same_tables ta tb rows columns each =
      let own = ta.filled in
      let other = tb.filled in
      let alike : a.rows * a.columns ≡ b.rows * b.columns = ap (λ n. n * a.columns) rows ∙ ap (λ n. b.rows * n) columns in
      let long : length a.entries ≡ length b.entries = own ∙ (alike ∙ sym other) in
      let entries : a.entries ≡ b.entries = ext_get_or d.zero a.entries b.entries long (λ k l. each k (omega (arith, l, own))) in
      ap (λ n. table_of n a.columns a.entries) rows ∙ (ap (λ n. table_of b.rows n a.entries) columns ∙ ap (λ es. table_of b.rows b.columns es) entries)
