use Rattle.std.proofs.Common.{ℕ, pos, ◌+◌, ◌-◌, ◌/◌, ◌<◌, ◌≤◌, arith, ⊎_elim}
use Rattle.std.proofs.lemmas.Bool.{cases_lt}
use Rattle.dioid.specs.declared.dates.Date.{Date}
use Rattle.dioid.specs.declared.dates.Date.TheVariants.{At}
use Rattle.dioid.specs.Dates.{IsAtMostDate}
use Rattle.dioid.proofs.DateOrder.{at_most_trans}
use Rattle.settled_laws.specs.SettledForms.{settled_date}
use Rattle.date_counts.proofs.counts.count_below.Goals as goal

pub loop-late-preserved-then-is_by : goal.loop-late-preserved-then-is_by
loop-late-preserved-then-is_by c =
    let d : ℕ → Date = settled_date c.args.settled.now c.args.transition.index in
    let middle : ℕ = c.loop-late.count + (c.loop-late.late - c.loop-late.count) / 2 in
    let inv = c.loop-late.invariant in
    let raw = c.is_by.ensures.yes c.if-is_by.true in
    let here : IsAtMostDate (d middle) (At (pos c.args.limit)) = rw c.date.ensures.value at raw in
    record {
      below = omega arith;
      low = inv.low;
      by = λ k o m. at_most_trans (d k) (d middle) (At (pos c.args.limit)) (c.requires.rise k middle o m) here;
      later = inv.later;
    }

pub returns-clause-count : goal.returns-clause-count
returns-clause-count c =
    let d : ℕ → Date = settled_date c.args.settled.now c.args.transition.index in
    let late : ℕ = c.loop-late.late in
    let count : ℕ = c.loop-late.count in
    let inv = c.loop-late.invariant in
    let end = c.loop-late-test.false in
    λ k o. (
      λ g. ⊎_elim
          (λ (q : count < k). absurd (inv.later (at_most_trans (d late) (d k) (At (pos c.args.limit)) (c.requires.rise late k (omega arith) (omega arith)) g)))
          (λ (q : k ≤ count). q)
          (cases_lt count k),
      λ m. inv.by k o m,
    )
