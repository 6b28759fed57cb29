use Rattle.std.proofs.Common.{◌≡◌, ℕ, ◌*◌, ◌+◌, ◌/◌, ◌%◌, ◌≤◌, ◌<◌, ◌++◌, ◌∷◌, [], length, rules, arith, refl}
use Rattle.std.proofs.lemmas.Result.{err_from_is_err_and}
use Rattle.dioid_matrix.specs.EntryLists.{PassRefused}
use Rattle.dioid_matrix.specs.MatrixStars.{through}
use Rattle.dioid_matrix.specs.Tables.{entry_of, table_of}
use Rattle.dioid_matrix.specs.Turns.{WayFits, EntryFits}
use Rattle.dioid_matrix.proofs.Cells.{holds_more, elements_everywhere, pivot_within}
use Rattle.dioid_matrix.proofs.Places.{first_misfit, entries_held, fits_held, made_value, made_refused}
use Rattle.dioid_matrix.proofs.Turning.{at_turn, loop_misfits}
use Rattle.dioid_matrix.proofs.passes.eliminated.Goals as goal

pub offset_bounds-entries-row : goal.offset_bounds-entries-row
offset_bounds-entries-row g c =
    let b : c.loop-place.place / c.args.size * c.args.size + c.args.k < length c.args.entries.now =
    pivot_within c.loop-place.place c.args.size c.args.k _ c.requires.step c.loop-place-test.true c.requires.filled in
    omega (arith, b)

pub bounds-entries-row : goal.bounds-entries-row
bounds-entries-row g c = pivot_within c.loop-place.place c.args.size c.args.k _ c.requires.step c.loop-place-test.true c.requires.filled

pub returns-then-loops-column : goal.returns-then-loops-column
returns-then-loops-column g c =
    let some : 1 ≤ c.args.size = omega arith in
    let left : length c.args.loops.now ≤ c.loop-place.place % c.args.size = search rules in (
      refl,
      first_misfit c.args.size c.args.size c.loop-place.place _ some
          (record {
            within = c.loop-place-test.true;
            before = c.loop-place.invariant.fit;
            here = loop_misfits g.D.Dioid g.D.Kleene c.args.size c.args.k c.args.entries.now c.args.loops.now c.requires.loops c.requires.step
                c.requires.filled c.loop-place.place c.loop-place-test.true c.loop-place.invariant.fit left;
          }),
    )

pub returns-in_err-value : goal.returns-in_err-value
returns-in_err-value g c =
    let d = g.D.Dioid in
    let r = entry_of d (table_of c.args.size c.args.size c.args.entries.now) in
    let is = rw c.of.ensures at c.in_err-value.ensures in
    let back = err_from_is_err_and c.from_residual.result c.from_residual.ensures.1 in
    rw (back.1, back.2) (made_refused _ _ _ (PassRefused d g.D.Kleene c.args.size r c.args.k) _ (c.args.k + 1) _ _ _ is c.plus_product-sum.ensures.answer (λ refused.
    let some : 1 ≤ c.args.size = omega arith in
    let column : c.loop-place.place % c.args.size < length c.args.loops.now = search rules in
    let here = at_turn d g.D.Kleene c.args.size c.args.k c.args.entries.now c.args.loops.now c.requires.loops c.requires.step
    c.requires.filled (λ x y z. ¬ WayFits d x y z) c.loop-place.place _ _ _ c.loop-place-test.true column c.index-entries-place.is
    c.index-entries-row.is c.index-loops-column.is refused in
    (refl, first_misfit c.args.size c.args.size c.loop-place.place _ some (record { within = c.loop-place-test.true; before = c.loop-place.invariant.fit; here = λ f. here f.1 }))) tt)

pub loop-place-preserved : goal.loop-place-preserved
loop-place-preserved g c =
    let d = g.D.Dioid in
    let column : c.loop-place.place % c.args.size < length c.args.loops.now = search rules in
    let read = λ (P : g.row.D.Denot → g.row.D.Denot → g.row.D.Denot
    → Type 0). at_turn d g.D.Kleene c.args.size c.args.k c.args.entries.now c.args.loops.now c.requires.loops c.requires.step
    c.requires.filled P c.loop-place.place _ _ _ c.loop-place-test.true column c.index-entries-place.is c.index-entries-row.is c.index-loops-column.is in
    let items : c.push.new.self.items ≡ c.loop-place.values.items ++ (c.in_ok-value.value ∷ []) = search rules in
    let is = rw c.of.ensures at c.in_ok-value.ensures in
    let made = made_value _ _ _ _ (c.args.k + 1) _ _ c.in_ok-value.value is c.plus_product-sum.ensures.answer in
    let answer = rw made at c.plus_product-sum.ensures.answer in
    let element = rw made at c.plus_product-sum.ensures.element in
    rw items (holds_more d _ _ _ _ _ c.loop-place.invariant
    (c.requires.loops.fit (c.loop-place.place % c.args.size) column, read (λ x y z. WayFits d x y z) answer.1)
    (read (λ x y z. c.in_ok-value.value ≡ d.sum x (d.product y z)) answer.0) element)

pub returns : goal.returns
returns g c =
    let d = g.D.Dioid in
    let s = g.D.Kleene in
    let r = entry_of d (table_of c.args.size c.args.size c.args.entries.now) in
    let whole : c.loop-place.place ≡ c.args.size * c.args.size = search rules in
    let h = rw whole at c.loop-place.invariant in
    let fits = λ (i j : ℕ). EntryFits d s r c.args.k i j in
    let value = λ (i j : ℕ). through d s r c.args.k i j in (
      h.len,
      elements_everywhere d _ _ _ _ g.met.D.Dioid.closed.zero_is h,
      record { entries = entries_held d c.args.size c.args.size fits value _ h; fit = fits_held d c.args.size c.args.size fits value _ h },
    )
