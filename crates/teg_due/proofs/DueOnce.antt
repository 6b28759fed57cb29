-- Rows of which no two are of one firing.
use Rattle.std.proofs.Common.{ℕ, ◌+◌, ◌<◌, ◌≡◌, ◌≢◌, ◌⊎◌, ◌∙◌, List, length, get_or, take, sym, subst, arith, ⊎_elim, inl, inr}
use Rattle.std.specs.Prelude.{AllPairs, Any}
use Rattle.std.proofs.lemmas.Bool.{cases_eq}
use Rattle.std.proofs.lemmas.List.{get_or_default, get_or-take, length-take, take_more}
use Rattle.std.proofs.lemmas.List.Quantifiers.{all_pairs_push}
use Rattle.teg_due.specs.declared.rows.DueRow.{DueRow}

-- what is read past the end of a list of rows
abbrev pub no_row : DueRow
no_row = record { row = 0; transition = record { index = 0 }; number = 0; date = 0 }

-- two rows are of two firings
abbrev pub AreOtherFirings : DueRow → DueRow → Type 0
AreOtherFirings r s = (r.transition.index ≢ s.transition.index) ⊎ (r.number ≢ s.number)

-- two rows are of one firing
abbrev pub AreOneFiring : DueRow → DueRow → Type 0
AreOneFiring r s = (r.transition.index ≡ s.transition.index) × (r.number ≡ s.number)

other : (r s : DueRow) → (AreOneFiring r s → ⊥) → AreOtherFirings r s
other r s differ =
    ⊎_elim
    (λ (e : r.transition.index ≡ s.transition.index). inr (λ (f : r.number ≡ s.number). differ (e, f)))
    (λ (apart : r.transition.index ≢ s.transition.index). inl apart)
    (cases_eq r.transition.index s.transition.index)

not_other : (r s : DueRow) → AreOneFiring r s → AreOtherFirings r s → ⊥
not_other r s same apart = ⊎_elim (λ (a : r.transition.index ≢ s.transition.index). a same.0) (λ (a : r.number ≢ s.number). a same.1) apart

module _ (rows : List DueRow) (i : ℕ) (l : i < length rows) where
  -- the row at i is of a new firing
  pub other_firing : (Any (λ r. AreOneFiring r (get_or rows i no_row)) (take i rows) → ⊥) → AllPairs AreOtherFirings (take i rows) → AllPairs AreOtherFirings (take (i + 1) rows)
  other_firing none before =
      subst
      (AllPairs AreOtherFirings)
      (sym (take_more rows i no_row l))
      (all_pairs_push AreOtherFirings (take i rows) (get_or rows i no_row) before
      (λ k d m.
      let z : DueRow = get_or (take i rows) k d in
      other z (get_or rows i no_row) (λ same. none (k, z, m, get_or_default (take i rows) k z d m, same))))

  -- an earlier row is of the firing of the row at i
  pub firing_twice : Any (λ r. AreOneFiring r (get_or rows i no_row)) (take i rows) → AllPairs AreOtherFirings rows → ⊥
  firing_twice (k, y, m, r, same) apart =
      let below : k < i = omega (arith, m, length-take i rows) in
      let read : get_or rows k y ≡ y = sym (get_or-take i rows k y below) ∙ r in
      let here : get_or rows i y ≡ get_or rows i no_row = get_or_default rows i y no_row l in
      let two : AreOtherFirings (get_or rows k y) (get_or rows i y) = apart k i y below l in
      not_other y (get_or rows i no_row) same (subst (AreOtherFirings y) here (subst (λ z. AreOtherFirings z (get_or rows i y)) read two))
