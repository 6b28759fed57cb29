use Rattle.std.proofs.Common.{◌≡◌, ℕ, ◌*◌, ◌++◌, ◌∷◌, [], ◌<◌, rules, refl}
use Rattle.std.proofs.lemmas.Result.{err_from_is_err_and}
use Rattle.dioid_matrix.specs.Sums.{EntrySumFits, SumRefused}
use Rattle.dioid_matrix.specs.Tables.{entry_of, table_of}
use Rattle.dioid_matrix.proofs.Cells.{holds_more, elements_everywhere}
use Rattle.dioid_matrix.proofs.Places.{first_misfit, entries_held, fits_held, made_value, made_refused}
use Rattle.dioid_matrix.proofs.Turning.{at_both}
use Rattle.dioid_matrix.proofs.lists.sums.Goals as goal

pub returns-in_err-value : goal.returns-in_err-value
returns-in_err-value g c =
    let d = g.D.Dioid in
    let a = table_of c.args.rows c.args.columns c.args.left.now in
    let b = table_of c.args.rows c.args.columns c.args.right.now in
    let is = rw c.of-sum.ensures at c.in_err-value.ensures in
    let back = err_from_is_err_and c.from_residual.result c.from_residual.ensures.1 in
    rw (back.1, back.2) (made_refused _ _ _ (SumRefused d a b) _ 0 _ _ _ is c.plus.ensures.answer (λ refused.
    let within : c.loop-place.place < c.args.rows * c.args.columns = search rules in
    let here = at_both d c.args.rows c.args.columns c.args.left.now c.args.right.now
    (λ x y. ¬ d.sum_fits x y) c.loop-place.place _ _ c.requires.left_size c.requires.right_size within c.index-left-place.is c.index-right-place.is refused in
    (refl, first_misfit c.args.rows c.args.columns c.loop-place.place _ c.requires.some_columns (record { within = within; before = c.loop-place.invariant.fit; here = here }))) tt)

pub loop-place-preserved : goal.loop-place-preserved
loop-place-preserved g c =
    let d = g.D.Dioid in
    let within : c.loop-place.place < c.args.rows * c.args.columns = search rules in
    let both = λ (P : g.row.D.Denot → g.row.D.Denot
    → Type 0). at_both d c.args.rows c.args.columns c.args.left.now c.args.right.now P c.loop-place.place _ _ c.requires.left_size
    c.requires.right_size within c.index-left-place.is c.index-right-place.is in
    let items : c.push.new.self.items ≡ c.loop-place.values.items ++ (c.in_ok-value.value ∷ []) = search rules in
    let is = rw c.of-sum.ensures at c.in_ok-value.ensures in
    let made = made_value _ _ _ _ 0 _ _ c.in_ok-value.value is c.plus.ensures.answer in
    let answer = rw made at c.plus.ensures.answer in
    let element = rw made at c.plus.ensures.element in
    rw items (holds_more d _ _ _ _ _ c.loop-place.invariant (both (λ x y. d.sum_fits x y) answer.1)
    (both (λ x y. c.in_ok-value.value ≡ d.sum x y) answer.0) element)

pub returns : goal.returns
returns g c =
    let d = g.D.Dioid in
    let a = table_of c.args.rows c.args.columns c.args.left.now in
    let b = table_of c.args.rows c.args.columns c.args.right.now in
    let whole : c.loop-place.place ≡ c.args.rows * c.args.columns = search rules in
    let h = rw whole at c.loop-place.invariant in
    let fits = λ (i j : ℕ). EntrySumFits d a b i j in
    let value = λ (i j : ℕ). d.sum (entry_of d a i j) (entry_of d b i j) in (
      h.len,
      elements_everywhere d _ _ _ _ g.met.D.Dioid.closed.zero_is h,
      record {
        rows = refl;
        columns = refl;
        entries = entries_held d c.args.rows c.args.columns fits value _ h;
        fit = fits_held d c.args.rows c.args.columns fits value _ h;
      },
    )
