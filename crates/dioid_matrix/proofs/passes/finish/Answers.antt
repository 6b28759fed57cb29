use Rattle.std.proofs.Common.{◌≡◌, ℕ, ◌+◌, ◌*◌, ◌/◌, ◌%◌, ◌++◌, ◌∷◌, [], rules, refl, IsTrue, eqb, cond, subst}
use Rattle.std.proofs.lemmas.Result.{err_from_is_err_and}
use Rattle.dioid_matrix.specs.EntryLists.{last_entry_of, LastRefused}
use Rattle.dioid_matrix.specs.Tables.{entry_of, table_of}
use Rattle.dioid_matrix.specs.Turns.{LastFits}
use Rattle.dioid_matrix.proofs.Cells.{holds_more, elements_everywhere}
use Rattle.dioid_matrix.proofs.Places.{first_misfit, entries_held, fits_held, made_value, made_refused}
use Rattle.dioid_matrix.proofs.Turning.{at_entry}
use Rattle.dioid_matrix.proofs.passes.finish.Goals as goal

pub returns-in_err-value : goal.returns-in_err-value
returns-in_err-value g c =
    let d = g.D.Dioid in
    let r = entry_of d (table_of c.args.size c.args.size c.args.entries.now) in
    let is = rw c.of.ensures at c.in_err-value.ensures in
    let back = err_from_is_err_and c.from_residual.result c.from_residual.ensures.1 in
    rw (back.1, back.2) (made_refused _ _ _ (LastRefused d c.args.size r) _ (c.args.size + 1) _ _ _ is c.ended-last.ensures.answer (λ refused.
    let row = c.loop-place.place / c.args.size in
    let column = c.loop-place.place % c.args.size in
    let one = subst (λ (v : g.row.D.Denot). (IsTrue (eqb row column) → d.sum_fits c.index-entries-place.result v) → ⊥) c.in-Ok.ensures.answer.0 refused in
    let here = at_entry d c.args.size c.args.entries.now
    (λ z. ¬ (IsTrue (eqb row column) → d.sum_fits z d.one)) c.loop-place.place _ c.requires.filled c.loop-place-test.true c.index-entries-place.is one in
    (refl, first_misfit c.args.size c.args.size c.loop-place.place _ c.requires.some (record { within = c.loop-place-test.true; before = c.loop-place.invariant.fit; here = here }))) tt)

pub loop-place-preserved : goal.loop-place-preserved
loop-place-preserved g c =
    let d = g.D.Dioid in
    let v = c.in_ok-value in
    let items : c.push.new.self.items ≡ c.loop-place.values.items ++ (v.value ∷ []) = search rules in
    let is = rw c.of.ensures at v.ensures in
    let made = made_value _ _ _ _ (c.args.size + 1) _ _ v.value is c.ended-last.ensures.answer in
    let answer = rw made at c.ended-last.ensures.answer in
    let element = rw made at c.ended-last.ensures.element in
    let at = λ (P : g.row.D.Denot → Type 0). at_entry d c.args.size c.args.entries.now P c.loop-place.place _ c.requires.filled c.loop-place-test.true c.index-entries-place.is in
    let row = c.loop-place.place / c.args.size in
    let column = c.loop-place.place % c.args.size in
    let fits = subst (λ (u : g.row.D.Denot). IsTrue (eqb row column) → d.sum_fits c.index-entries-place.result u) c.in-Ok.ensures.answer.0 answer.1 in
    let value = subst (λ (u : g.row.D.Denot). v.value ≡ cond (eqb row column) (d.sum c.index-entries-place.result u) c.index-entries-place.result) c.in-Ok.ensures.answer.0 answer.0 in
    rw items (holds_more d _ _ _ _ _ c.loop-place.invariant (at (λ z. IsTrue (eqb row column) → d.sum_fits z d.one) fits)
    (at (λ z. v.value ≡ cond (eqb row column) (d.sum z d.one) z) value) element)

pub returns : goal.returns
returns g c =
    let d = g.D.Dioid in
    let r = entry_of d (table_of c.args.size c.args.size c.args.entries.now) in
    let whole : c.loop-place.place ≡ c.args.size * c.args.size = search rules in
    let h = rw whole at c.loop-place.invariant in
    let fits = λ (i j : ℕ). LastFits d r i j in
    let value = λ (i j : ℕ). last_entry_of d r i j in (
      h.len,
      elements_everywhere d _ _ _ _ g.met.D.Dioid.closed.zero_is h,
      record { entries = entries_held d c.args.size c.args.size fits value _ h; fit = fits_held d c.args.size c.args.size fits value _ h },
    )
