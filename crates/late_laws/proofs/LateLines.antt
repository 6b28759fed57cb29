-- Due dates that rise no less than a line in each round stay over it, and gain on it by the round.
use Rattle.std.proofs.Common.{ℕ, ℤ, ◌+◌, ◌-◌, ◌*◌, ◌<◌, ◌≤◌, ◌≡◌, length, sym, ap, subst, ◌∙◌, arith, ⊎_elim, ◌+ℤ◌, ◌*ℤ◌}
use Rattle.std.specs.Prelude.{pos, ◌≤ℤ◌}
use Rattle.std.proofs.lemmas.Bool.{cases_lt}
use Rattle.std.proofs.lemmas.Int.{ints}
use Rattle.std.proofs.Math.Nat.{mul-le-mul_left}
use Rattle.forever_laws.specs.teg_net.Nets.{NetLists}
use Rattle.growth_laws.specs.DateLines.{line_at, IsBelowLine}
use Rattle.growth_laws.proofs.DateLines.{bound_dates}
use Rattle.forever_laws.specs.due_laws.MeetingDueDates.{inputs_at_zero}
use Rattle.endless_due.specs.declared.row.EndlessRow.{EndlessRow}
use Rattle.endless_due.specs.EndlessRows.{IsEndlessRow}
use Rattle.forever_laws.specs.Late.{IsLateAt}
use Rattle.late_laws.specs.LateLines.{IsLineUnderDues, NoneLatePastLine, DuesPassLine}
use Rattle.forever_laws.proofs.FirstLate.{on_by}
use Rattle.growth_laws.proofs.Growth.{IsSomePeriodsOn, periods_on}
use Rattle.forever_laws.proofs.GoingOn.{due_number, due_is, due_only, due_again}

-- rounds later the due date has risen by the gaps, and the line by what it rises in them
dues_on : (net : NetLists) (r : EndlessRow) → IsEndlessRow net r → (past rounds k : ℕ) → length r.dates ≤ past + r.every → past < k
    → due_number r (k + rounds * r.every) ≡ due_number r k + rounds * r.gap
dues_on net r row past rounds k far l = on_by (due_number r) past r.every r.gap (λ j m. due_again net r row j (omega arith)) rounds k l

sum_on : (b k rounds step : ℕ) → b * (k + rounds * step) ≡ b * k + rounds * (b * step)
sum_on b k rounds step = grind arith

line_on : (a : ℕ) (c : ℤ) (v : ℕ → ℤ) (t k rounds every : ℕ) → line_at a c v t (k + rounds * every) ≡ (line_at a c v t k +ℤ pos (rounds * (a * every)))
line_on a c v t k rounds every = let e = sum_on a k rounds every in omega (arith, ints, e)

-- some rounds later the line is still under the due dates
under_on : (net : NetLists) (r : EndlessRow) → IsEndlessRow net r → (a b : ℕ) (c : ℤ) (v : ℕ → ℤ) (last : ℕ) → IsLineUnderDues r a b c v last
    → (k rounds : ℕ) → last < k → k ≤ last + r.every → line_at a c v r.transition.index (k + rounds * r.every) ≤ℤ pos (b * due_number r (k + rounds * r.every))
under_on net r row a b c v last under k rounds above within =
    let here = under.round k (due_number r k) above within (due_is r k) in
    let line = line_on a c v r.transition.index k rounds r.every in
    let dues : b * due_number r (k + rounds * r.every) ≡ b * due_number r k + rounds * (b * r.gap) =
    ap (λ n. b * n) (dues_on net r row last rounds k under.past_list above) ∙ sum_on b (due_number r k) rounds r.gap in
    let more : rounds * (a * r.every) ≤ rounds * (b * r.gap) = mul-le-mul_left {m = a * r.every} {n = b * r.gap} rounds under.rises_less in
    omega (arith, ints, here, line, more, dues)

-- the line is under the due date of each number past the last
under_dues : (net : NetLists) (r : EndlessRow) → IsEndlessRow net r → (a b : ℕ) (c : ℤ) (v : ℕ → ℤ) (last : ℕ) → IsLineUnderDues r a b c v last
    → (k : ℕ) → last < k → line_at a c v r.transition.index k ≤ℤ pos (b * due_number r k)
under_dues net r row a b c v last under k l =
    let p : IsSomePeriodsOn last r.every k = periods_on last r.every k row.goes_on.some l in
    subst (λ n. line_at a c v r.transition.index n ≤ℤ pos (b * due_number r n)) (sym p.is) (under_on net r row a b c v last under p.base p.rounds p.above p.within)

-- a number that is late is not past the last
late_not_past : (b due least : ℕ) (line : ℤ) → 1 ≤ b → (pos b *ℤ pos least) ≤ℤ line → line ≤ℤ pos (b * due) → due < least → ⊥
late_not_past b due least line some low high late =
    let more : b * (due + 1) ≤ b * least = mul-le-mul_left {m = due + 1} {n = least} b (omega arith) in
    let product : b * (due + 1) ≡ b * due + b = grind arith in
    omega (arith, ints, more, product, low, high)

pub none_past_line : NoneLatePastLine
none_past_line net ends live x least r row inside a b c v into starts member last under = (
  near,
  λ none k due date late. none k due date (near k due date late) late,
) where
  near : (k due date : ℕ) → IsLateAt x r k due date → k ≤ last
  near k due date late =
      ⊎_elim
      (λ (past : last < k).
      let low = subst (IsBelowLine b (line_at a c v r.transition.index k)) late.comes
      (bound_dates net ends live inputs_at_zero x least inside a b c v into starts r.transition.index k row.in_range late.from_one member) in
      let high = subst (λ n. line_at a c v r.transition.index k ≤ℤ pos (b * n)) (sym (due_only r k due late.is_due)) (under_dues net r row a b c v last under k past) in
      absurd (late_not_past b due date (line_at a c v r.transition.index k) under.some low high late.late))
      (λ (not : k ≤ last). not)
      (cases_lt last k)

-- what is lacked so many rounds before is gained by then
gained : (net : NetLists) (r : EndlessRow) → IsEndlessRow net r → (a b : ℕ) (c : ℤ) (v : ℕ → ℤ) (past gain rounds k : ℕ) → length r.dates ≤ past + r.every → b * r.gap ≡ a * r.every + gain → past < k
    → line_at a c v r.transition.index k ≤ℤ pos (b * due_number r k + rounds * gain)
    → line_at a c v r.transition.index (k + rounds * r.every) ≤ℤ pos (b * due_number r (k + rounds * r.every))
gained net r row a b c v past gain rounds k far e above lacks =
    let line = line_on a c v r.transition.index k rounds r.every in
    let dues : b * due_number r (k + rounds * r.every) ≡ b * due_number r k + rounds * (b * r.gap) =
    ap (λ n. b * n) (dues_on net r row past rounds k far above) ∙ sum_on b (due_number r k) rounds r.gap in
    let gains : rounds * (b * r.gap) ≡ rounds * (a * r.every) + rounds * gain = ap (λ n. rounds * n) e ∙ spread rounds (a * r.every) gain in
    omega (arith, ints, lacks, line, dues, gains) where
      spread : (x y z : ℕ) → x * (y + z) ≡ x * y + x * z
      spread x y z = grind arith

pub dues_pass : DuesPassLine
dues_pass net r row a b c v past gain rounds some far e lacks = record {
  some = some;
  rises_less = omega (arith, e);
  past_list = omega (arith, far);
  round = λ k due l m is.
      let j : ℕ = k - rounds * r.every in
      let above : past < j = omega (arith, l) in
      let back : j + rounds * r.every ≡ k = omega (arith, l) in
      let here = gained net r row a b c v past gain rounds j far e above (lacks j (due_number r j) above (omega (arith, m)) (due_is r j)) in
      subst (λ n. line_at a c v r.transition.index k ≤ℤ pos (b * n)) (sym (due_only r k due is)) (subst (λ n. line_at a c v r.transition.index n ≤ℤ pos (b * due_number r n)) back here);
}
