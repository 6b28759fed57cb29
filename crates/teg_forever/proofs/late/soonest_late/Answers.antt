use Rattle.std.proofs.Common.{◌≡◌, ◌≤◌, ◌<◌, ◌+◌, ◌-◌, ◌*◌, ℕ, sym, arith, subst, ⊎_elim}
use Rattle.forever_laws.specs.settled_laws.SettledForms.{SettledForm, settled_date}
use Rattle.endless_due.specs.declared.row.EndlessRow.{EndlessRow}
use Rattle.forever_laws.specs.LateSearches.{IsSoonest, turns_to}
use Rattle.teg_forever.specs.declared.late.Soonest.{Soonest}
use Rattle.teg_forever.specs.LateFirings.{IsSoonLate}
use Rattle.teg_forever.proofs.LateNumbers.{soonest_begun, soonest_kept, soonest_next}
use Rattle.teg_forever.proofs.LateTurns.{soon_by_turns}
use Rattle.teg_forever.proofs.late.soonest_late.Goals as goal

abbrev Kept : SettledForm → EndlessRow → ℕ → ℕ → ℕ → Soonest → Type 0
Kept f r past n gain b = record {
  is : IsSoonest (settled_date f) r past n gain b.number b.due b.least;
  turns : b.turns ≡ turns_to b.due b.least gain;
}

pub loop-number-init : goal.loop-number-init
loop-number-init c =
    let x = settled_date c.args.row.now.settled in
    let b = c.turns_at-best.result in
    let same : c.args.turn.past + 1 ≡ c.args.turn.past + 2 - 1 = omega arith in
    let begun = soonest_begun x c.args.row.now.row c.args.turn.past (c.args.turn.rise - c.args.turn.fall) b.due b.least c.turns_at-best.ensures.due c.turns_at-best.ensures.least in
    record {
      is = subst (λ (m : ℕ). IsSoonest x c.args.row.now.row c.args.turn.past m (c.args.turn.rise - c.args.turn.fall) b.number b.due b.least) same
          (subst (λ (m : ℕ). IsSoonest x c.args.row.now.row c.args.turn.past (c.args.turn.past + 1) (c.args.turn.rise - c.args.turn.fall) m b.due b.least) (sym c.turns_at-best.ensures.number) begun);
      turns = c.turns_at-best.ensures.turns;
    }

pub loop-number-preserved : goal.loop-number-preserved
loop-number-preserved c =
    let x = settled_date c.args.row.now.settled in
    let r = c.args.row.now.row in
    let n = c.loop-number.number in
    let old = c.loop-number.best in
    let next = c.turns_at.result in
    let same : c.loop-number.number ≡ c.loop-number.number + 1 - 1 = omega arith in
    let past : c.args.turn.past < c.loop-number.number = omega arith in
    let before : old.turns ≡ turns_to old.due old.least (c.args.turn.rise - c.args.turn.fall) = c.loop-number.invariant.turns in
    let here : next.turns ≡ turns_to next.due next.least (c.args.turn.rise - c.args.turn.fall) = c.turns_at.ensures.turns in
    ⊎_elim
    (λ (h : (next.turns < old.turns) × (c.sooner-best.result ≡ next)).
    let less : next.turns < old.turns = h.0 in
    let is = soonest_next x r c.args.turn.past n (c.args.turn.rise - c.args.turn.fall) old.number old.due old.least next.due next.least past c.turns_at.ensures.due
    c.turns_at.ensures.least (omega arith) c.loop-number.invariant.is in
    subst (Kept c.args.row.now.settled r c.args.turn.past (n + 1 - 1) (c.args.turn.rise - c.args.turn.fall)) (sym h.1) (record {
      is = subst (λ (m : ℕ). IsSoonest x r c.args.turn.past m (c.args.turn.rise - c.args.turn.fall) next.number next.due next.least) same
          (subst (λ (m : ℕ). IsSoonest x r c.args.turn.past n (c.args.turn.rise - c.args.turn.fall) m next.due next.least) (sym c.turns_at.ensures.number) is);
      turns = here;
    }))
    (λ (h : (old.turns ≤ next.turns) × (c.sooner-best.result ≡ old)).
    let less : old.turns ≤ next.turns = h.0 in
    let is = soonest_kept x r c.args.turn.past n (c.args.turn.rise - c.args.turn.fall) old.number old.due old.least next.due next.least past c.turns_at.ensures.due
    c.turns_at.ensures.least (omega arith) c.loop-number.invariant.is in
    subst (Kept c.args.row.now.settled r c.args.turn.past (n + 1 - 1) (c.args.turn.rise - c.args.turn.fall)) (sym h.1) (record {
      is = subst (λ (m : ℕ). IsSoonest x r c.args.turn.past m (c.args.turn.rise - c.args.turn.fall) old.number old.due old.least) same is;
      turns = before;
    }))
    c.sooner-best.ensures

pub returns : goal.returns
returns c =
    let a = c.args.row.now in
    let b = c.loop-number.best in
    let t = c.args.turn in
    let h = c.requires in
    let steep : t.fall < t.rise = h.steep in
    let low : (t.past + t.firings) + 1 ≤ c.loop-number.number = c.loop-number-test.false in
    let same : c.loop-number.number - 1 ≡ t.past + t.firings = omega arith in
    let is = subst (λ (m : ℕ). IsSoonest (settled_date a.settled) a.row t.past m (t.rise - t.fall) b.number b.due b.least) same c.loop-number.invariant.is in
    subst (λ (n : ℕ). IsSoonLate a.settled a.row (b.number + n * t.firings) (b.due + n * t.fall) (b.least + n * t.rise)) (sym c.loop-number.invariant.turns)
    (soon_by_turns a.settled a.row c.settled.ensures.told c.turns_tell_late.ensures.turns t.past t.firings t.rise t.fall h.common h.in_time
    c.late_is_soon.ensures (t.rise - t.fall) b.number b.due b.least (omega arith) (omega arith) is)
