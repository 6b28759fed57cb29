-- Places that pass the greatest delay on, and what becomes of the delays.
use Rattle.std.proofs.Common.{ℕ, ◌+◌, ◌<◌, ◌≤◌, ◌≡◌, ◌≢◌, List, length, get_or, set, take, drop, Option, Some, None, sym, ap, subst, ◌∙◌, arith, ⊎_elim}
use Rattle.std.specs.Prelude.{◌⊎◌}
use Rattle.std.proofs.lemmas.Bool.{cases_eq, cases_lt}
use Rattle.std.proofs.lemmas.List.{length-set, get_or-set_same, get_or-set_other}
use Rattle.std.proofs.lemmas.List.Elements.{All-append, All-drop, All-take}
use Rattle.delay_laws.specs.DelayOutcomes.{HasDelayPast, IsGreatestPast, KeepsDelays, IsRecovered}
use Rattle.delay_laws.specs.SettlingLaws.{AreSettledDelays}
use Rattle.delay_laws.proofs.Keeping.{circuit_within, circuits_keep_delays, delays_die_out}
use Rattle.delay_laws.proofs.PassedOn.{greatest_delays_are_passed_on}
use Rattle.teg_net.specs.declared.entries.PlaceId.{PlaceId}
use Rattle.teg_net.specs.Circuits.{from_of, BeginsLowest, IsCircuit, IsTurned}
use Rattle.teg_net.specs.Parts.{to_of}
use Rattle.teg_timetable.specs.Spreads.{LeftDelays, delay_left}
use Rattle.teg_timetable.specs.WaysBack.{AreFeeders, AreGood, AreTopsOf, FeedersGoBack, FeedsAt, IsFeeder, IsGood, IsTop, TopDelays, greatest_top}

-- the feeders of the places up to number k, and the place of that number
module _ (s : TopDelays) (k : ℕ) (feeders : List (Option PlaceId)) (id : PlaceId) (is : id.index ≡ k) (old : AreFeeders s k feeders) where
  -- it feeds
  pub feeders_set : to_of s.net id < length s.net.transitions → FeedsAt s id → AreFeeders s (k + 1) (set feeders (to_of s.net id) (Some id))
  feeders_set in' feeds =
      let at : ℕ = to_of s.net id in
      let count = old.count in
      let same : get_or (set feeders at (Some id)) at None ≡ Some id = get_or-set_same feeders at (Some id) None (omega arith) in
      record {
        count = length-set feeders at (Some id) ∙ old.count;
        sound = λ i p e. ⊎_elim
            (λ (q : i ≡ at).
            let p_is : id ≡ p = cc in
            subst (IsFeeder s i) p_is (record { feeds = feeds; ends = sym q }))
            (λ (q : i ≢ at). old.sound i p (sym (get_or-set_other feeders at i (Some id) None q) ∙ e))
            (cases_eq i at);
        complete = λ i p l f e. ⊎_elim
            (λ (q : i ≡ at). let here = ap (λ (x : ℕ). get_or (set feeders at (Some id)) x None) q in cc)
            (λ (q : i ≢ at). ⊎_elim
            (λ (before : p.index < k). old.complete i p before f (sym (get_or-set_other feeders at i (Some id) None q) ∙ e))
            (λ (last : k ≤ p.index).
            let n : p.index ≡ id.index = omega (arith, l) in
            let ends : to_of s.net p ≡ to_of s.net id = ap (λ (j : ℕ). to_of s.net (record { index = j })) n in
            q (sym f.ends ∙ ends))
            (cases_lt p.index k))
            (cases_eq i at);
      }

  -- it does not
  pub feeders_same : (FeedsAt s id → ⊥) → AreFeeders s (k + 1) feeders
  feeders_same not = record {
    count = old.count;
    sound = old.sound;
    complete = λ i p l f. ⊎_elim
        (λ (before : p.index < k). old.complete i p before f)
        (λ (last : k ≤ p.index).
        let n : p.index ≡ id.index = omega (arith, l) in
        let same : p ≡ id = ap (λ (j : ℕ). let q : PlaceId = record { index = j } in q) n in
        absurd (not (subst (FeedsAt s) same f.feeds)))
        (cases_lt p.index k);
  }

-- a turned circuit has the same places
pub good_turned : (s : TopDelays) (ps qs : List PlaceId) → IsTurned ps qs → AreGood s ps → AreGood s qs
good_turned s ps qs turned h =
    subst (AreGood s) (sym turned.2) (All-append (IsGood s) (drop turned.0 ps) (take turned.0 ps) (All-drop (IsGood s) turned.0 ps h) (All-take (IsGood s) turned.0 ps h))

-- a delay in the period past the number is at most the greatest of its transition
top_is : (d : LeftDelays) (i top : ℕ) → IsTop d i top → (most : ℕ) → HasDelayPast (delay_left d) d.form.after d.form.period most i → top ≤ most → top ≡ most
top_is d i top h most past le =
    let up = h.greatest past.number past.past past.within in
    let is = past.is in
    omega arith

-- delays that settle, and the greatest that is left of each transition
module _ (s : TopDelays) (d : LeftDelays) (settled : AreSettledDelays s.net s.period s.table (delay_left d) d.form.after d.form.period)
    (h : AreTopsOf d s) where
  abbrev IsPast : ℕ → ℕ → Type 0
  IsPast most i = HasDelayPast (delay_left d) d.form.after d.form.period most i

  -- no delay of a period past the number is above the greatest of all
  greatest_past : IsGreatestPast s.net (delay_left d) d.form.after d.form.period (greatest_top s)
  greatest_past i k l past within =
      let long = h.built.long in
      let one = (h.built.each i 0 l).greatest k past within in
      let two = h.high i 0 (omega arith) in
      omega arith

  -- what feeders of all places tell: from each transition with the greatest delay one leads back
  pub feeders_go_back : 1 ≤ greatest_top s → (feeders : List (Option PlaceId)) → AreFeeders s (length s.net.places) feeders → FeedersGoBack s feeders
  feeders_go_back late feeders f = record {
    count = f.count;
    some = λ i l is.
        let long = h.built.long in
        let own : IsPast (greatest_top s) i = subst (λ (z : ℕ). IsPast z i) is (h.built.each i 0 l).attained in
        let on = greatest_delays_are_passed_on s.net h.top.planned.ends h.top.planned.live s.period h.top.planned.some s.table h.top.planned.workable
        (delay_left d) d.form.after d.form.period settled (greatest_top s) late greatest_past i l own in
        let p : PlaceId = on.0 in
        let from_in : from_of s.net p < length s.net.transitions = (h.top.planned.ends p.index _ on.1.place).0 in
        let below : get_or s.tops (from_of s.net p) 0 ≤ greatest_top s = h.high (from_of s.net p) 0 (omega arith) in
        let from = top_is d (from_of s.net p) (get_or s.tops (from_of s.net p) 0) (h.built.each (from_of s.net p) 0 from_in) (greatest_top s) on.1.from below in
        let to = ap (λ (j : ℕ). get_or s.tops j 0) on.1.to ∙ is in
        let feeds : FeedsAt s p = record { in_range = on.1.place; good = record { no_spare = on.1.no_spare; from = from }; to = to } in
        f.complete i p on.1.place (record { feeds = feeds; ends = on.1.to });
    sound = f.sound;
  }

  -- the delays die out
  pub recovered : greatest_top s ≡ 0 → (last : ℕ) → ((i k : ℕ) → i < length s.net.transitions → last < k → k ≤ d.form.after → delay_left d i k ≡ 0)
      → (last ≡ 0) ⊎ ((i : ℕ) × (i < length s.net.transitions) × (1 ≤ delay_left d i last)) → IsRecovered s.net (delay_left d) last
  recovered none last before is =
      delays_die_out s.net s.period s.table (delay_left d) d.form.after d.form.period settled
      (subst (IsGreatestPast s.net (delay_left d) d.form.after d.form.period) none greatest_past) last before is

  -- a circuit keeps them
  pub kept : 1 ≤ greatest_top s → (circuit : List PlaceId) → IsCircuit s.net circuit → BeginsLowest s.net circuit → AreGood s circuit
      → KeepsDelays s.net s.period (delay_left d) circuit
  kept late circuit is lowest good =
      let ends = h.top.planned.ends in
      let within = circuit_within s.net circuit ends is in
      circuits_keep_delays s.net s.period s.table ends (delay_left d) d.form.after d.form.period settled (greatest_top s) late circuit is lowest
      (λ k e l. (good k e l).no_spare)
      (λ k e l. let at : ℕ = from_of s.net (get_or circuit k e) in subst (λ (z : ℕ). IsPast z at) (good k e l).from (h.built.each at 0 (within k e l)).attained)
