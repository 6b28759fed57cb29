-- Delays that are left at some number, and those that places pass on.
use Rattle.std.proofs.Common.{ℕ, ◌+◌, ◌*◌, ◌<◌, ◌≤◌, ◌≡◌, ◌≢◌, ◌⊎◌, List, length, get_or, set, ◌∙◌, arith, ⊎_elim}
use Rattle.std.proofs.lemmas.Bool.{cases_eq}
use Rattle.std.proofs.lemmas.List.{length-set, get_or-set_same, get_or-set_other}
use Rattle.teg_net.specs.declared.entries.PlaceId.{PlaceId}
use Rattle.teg_net.specs.Nets.{NetLists}
use Rattle.teg_net.specs.Circuits.{place_at, from_of}
use Rattle.teg_model.specs.LiveRanks.{HasEndsInRange}
use Rattle.delay_laws.specs.declared.table.Timetable.{Timetable}
use Rattle.delay_laws.specs.PlannedTimetables.{first_planned, delay_given}
use Rattle.delay_laws.specs.TightCircuits.{GivenDelaysAreLeft}
use Rattle.delay_laws.proofs.TightCircuits.{place_passes}
use Rattle.delay_check.specs.ShownDelays.{AreSomewhereLeft, IsSomewhereLeft}

-- what is left at one transition is raised to a delay that is left there
pub left_more : (net : NetLists) (period : ℕ) (table : Timetable) (left : List ℕ) (t late most : ℕ) → t < length net.transitions → IsSomewhereLeft net period table t late
    → AreSomewhereLeft net period table left → (most ≡ get_or left t 0) ⊎ (most ≡ late) → AreSomewhereLeft net period table (set left t most)
left_more net period table left t late most l s h is = record {
  count = length-set left t most ∙ h.count;
  each = λ j m. ⊎_elim
      (λ (q : j ≡ t).
      rw (q, get_or-set_same left t most 0 (omega (arith, h.count, l)))
      (⊎_elim (λ (own : most ≡ get_or left t 0). rw own (h.each t l)) (λ (new : most ≡ late). rw new s) is))
      (λ (q : j ≢ t). rw (get_or-set_other left t j most 0 q) (h.each j m))
      (cases_eq j t);
}

-- at first none is known
pub none_left : (net : NetLists) (period : ℕ) (table : Timetable) (left : List ℕ) → length left ≡ length net.transitions → ((t : ℕ) → get_or left t 0 ≡ 0)
    → AreSomewhereLeft net period table left
none_left net period table left count zeros = record { count = count; each = λ t l. rw (zeros t) (1, omega arith, λ delay is. omega arith) }

-- a delay that is given is left
pub given_left : (net : NetLists) (period : ℕ) (table : Timetable) (t k : ℕ) → GivenDelaysAreLeft → t < length net.transitions → 1 ≤ k
    → IsSomewhereLeft net period table t (delay_given table t k)
given_left net period table t k law l o = (k, o, λ delay left. law net period table delay left t k l o)

-- a place passes on what its spare time does not take
pub place_left : (net : NetLists) → HasEndsInRange net → (period : ℕ) (table : Timetable) (p : PlaceId) (start late : ℕ) → p.index < length net.places
    → IsSomewhereLeft net period table (from_of net p) start
    → late + (first_planned table (place_at net p).to.index + period * (place_at net p).tokens)
    ≡ (first_planned table (from_of net p) + (place_at net p).hold) + start
    → IsSomewhereLeft net period table (place_at net p).to.index late
place_left net ends period table p start late own s is = (
  s.0 + (place_at net p).tokens,
  omega (arith, s.1),
  λ delay left.
      let here = place_passes net ends period table left.0 left.1 delay left.2 left.3 p own s.0 s.1 in
      let below : start ≤ delay (from_of net p) s.0 = s.2 delay left in
      omega (arith, here, below, is),
)
