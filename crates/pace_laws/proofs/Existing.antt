-- A strong part has tight potentials at its greatest ratio.
use Rattle.std.proofs.Common.{ℕ, ◌*◌, ◌<◌, ◌≤◌, ◌≡◌, ◌⊎◌, inl, inr, List, [], ◌∷◌, ◌++◌, length, get_or, refl, sym, subst, ◌∙◌, arith, ⊎_elim}
use Rattle.std.specs.Prelude.{ℤ, pos, ◌≤ℤ◌, All}
use Rattle.std.proofs.lemmas.Bool.{cases_lt, cases_eq}
use Rattle.std.proofs.lemmas.Int.{ints}
use Rattle.std.proofs.lemmas.List.Elements.{All-nil, All-cons}
use Rattle.teg_net.specs.declared.entries.PlaceId.{PlaceId}
use Rattle.teg_net.specs.Nets.{NetLists}
use Rattle.teg_net.specs.Ratios.{Fraction}
use Rattle.teg_net.specs.GreatestRatios.{IsGreatestRatio}
use Rattle.teg_net.specs.Circuits.{from_of, IsPathBetween, IsCircuit, time_of, tokens_of}
use Rattle.teg_net.specs.Parts.{to_of, IsMember, IsPlaceOfPart}
use Rattle.teg_net.specs.ReducedTimes.{reduced_time_of, IsGreatestPathTime}
use Rattle.teg_net.proofs.PathLaws.{IsPathBetween-append}
use Rattle.teg_parts.specs.Partitions.{AreStrong}
use Rattle.teg_loops.specs.Loops.{EndsBelow}
use Rattle.pace_laws.specs.TightPotentials.{AreTightPotentials, TightPotentialsExist, TightJustAtTheRatio}
use Rattle.pace_laws.proofs.Sums.{weight_is}
use Rattle.pace_laws.proofs.Longest.{IsWay, best_of_all}
use Rattle.pace_laws.proofs.Tight.{greatest_are_tight, tell_the_ratio}

pub member_or : (part_of : List ℕ) (part t : ℕ) → IsMember part_of part t ⊎ (IsMember part_of part t → ⊥)
member_or part_of part t = ⊎_elim
    (λ (l : t < length part_of).
    ⊎_elim
    (λ (e : get_or part_of t 0 ≡ part). inl (record { in_range = l; here = e }))
    (λ (n : get_or part_of t 0 ≡ part → ⊥). inr (λ m. n m.here))
    (cases_eq (get_or part_of t 0) part))
    (λ (g : length part_of ≤ t). inr (λ m. let l = m.in_range in absurd (omega arith)))
    (cases_lt t (length part_of))

pub place_or : (net : NetLists) (part_of : List ℕ) (part : ℕ) (p : PlaceId) → IsPlaceOfPart net part_of part p ⊎ (IsPlaceOfPart net part_of part p → ⊥)
place_or net part_of part p = ⊎_elim
    (λ (l : p.index < length net.places).
    ⊎_elim
    (λ (from : IsMember part_of part (from_of net p)).
    ⊎_elim
    (λ (to : IsMember part_of part (to_of net p)). inl (record { in_range = l; from_member = from; to_member = to }))
    (λ (n : IsMember part_of part (to_of net p) → ⊥). inr (λ m. n m.to_member))
    (member_or part_of part (to_of net p)))
    (λ (n : IsMember part_of part (from_of net p) → ⊥). inr (λ m. n m.from_member))
    (member_or part_of part (from_of net p)))
    (λ (g : length net.places ≤ p.index). inr (λ m. let l = m.in_range in absurd (omega arith)))
    (cases_lt p.index (length net.places))

module _ (net : NetLists) (part_of : List ℕ) (part : ℕ) (ends : EndsBelow net (length net.transitions)) (strong : AreStrong net part_of) where
  -- a path from a member, from whose end a path leads back, stays in the part
  stays : (ps : List PlaceId) (s t : ℕ) (back : List PlaceId) → IsMember part_of part s → IsPathBetween net s ps t → IsPathBetween net t back s → All (IsPlaceOfPart net part_of part) ps
  stays [] s t back m path home = All-nil (IsPlaceOfPart net part_of part)
  stays (p ∷ ps) s t back m path home =
      let count = strong.count in
      let low = m.in_range in
      let u : ℕ = to_of net p in
      let in' : u < length part_of = (let l = ends.to_in p path.0 in omega arith) in
      let there : IsPathBetween net s (p ∷ []) u = (path.0, path.1, refl) in
      let again : IsPathBetween net u (ps ++ back) s = IsPathBetween-append net ps back u t s path.2 home in
      let same = (strong.strong s u low in').1 ((p ∷ [], there), (ps ++ back, again)) in
      let to : IsMember part_of part u = record { in_range = in'; here = sym same ∙ m.here } in
      let from : IsMember part_of part (from_of net p) = subst (λ (z : ℕ). IsMember part_of part z) (sym path.1) m in
      All-cons (IsPlaceOfPart net part_of part) p ps
      (record { in_range = path.0; from_member = from; to_member = to })
      (stays ps u t (back ++ p ∷ []) to path.2 (IsPathBetween-append net back (p ∷ []) t s u home there))

  module _ (a b s : ℕ) (start : IsMember part_of part s) (no_gain : (c : List PlaceId) → IsCircuit net c → All (IsPlaceOfPart net part_of part) c → reduced_time_of net a b c ≤ℤ pos 0) where
    -- the greatest sum of the paths to a member
    sum_to : (t : ℕ) → IsMember part_of part t → (z : ℤ) × IsGreatestPathTime net part_of part a b s t z
    sum_to t m =
        let count = strong.count in
        let low = start.in_range in
        let high = m.in_range in
        let both = (strong.strong s t low high).0 (start.here ∙ sym m.here) in
        let ps : List PlaceId = both.0.0 in
        let inside = stays ps s t both.1.0 start both.0.1 both.1.1 in
        let End : ℕ → Type 0 = λ u. u ≡ t in
        let way : IsWay net a b (IsPlaceOfPart net part_of part) (place_or net part_of part) End (λ u. cases_eq u t) s ps = record { to = t; path = both.0.1; at_end = refl; inside = inside } in
        let o = best_of_all net a b (IsPlaceOfPart net part_of part) (place_or net part_of part) End (λ u. cases_eq u t)
        (length net.transitions) ends (λ u e. omega arith) no_gain s ps way in (
          reduced_time_of net a b o.best,
          record {
            attained = (o.best, subst (λ (z : ℕ). IsPathBetween net s o.best z) o.way.at_end o.way.path, o.way.inside, refl);
            greatest = λ qs path all. o.greatest qs (record { to = t; path = path; at_end = refl; inside = all });
          },
        )

    sum_or : (t : ℕ) → (z : ℤ) × (IsMember part_of part t → IsGreatestPathTime net part_of part a b s t z)
    sum_or t = ⊎_elim
        (λ (m : IsMember part_of part t). let w = sum_to t m in (w.0, λ n. w.1))
        (λ (n : IsMember part_of part t → ⊥). (pos 0, λ m. absurd (n m)))
        (member_or part_of part t)

    pub exist_from : (c : List PlaceId) → 0 < length c → IsPathBetween net s c s → All (IsPlaceOfPart net part_of part) c
        → time_of net c * b ≡ a * tokens_of net c → (v : ℕ → ℤ) × AreTightPotentials net part_of part a b v
    exist_from c some round inside attains = ((λ t. (sum_or t).0), greatest_are_tight net part_of part a b s (λ t. (sum_or t).0) c (λ t m. (sum_or t).1 m) some round inside attains)

-- at the greatest ratio no circuit gains
none_gains : (net : NetLists) (part_of : List ℕ) (part : ℕ) (r : Fraction) → IsGreatestRatio net (IsPlaceOfPart net part_of part) r
    → (c : List PlaceId) → IsCircuit net c → All (IsPlaceOfPart net part_of part) c → reduced_time_of net r.time r.tokens c ≤ℤ pos 0
none_gains net part_of part r g ps d i =
    let w = weight_is net r.time r.tokens ps in
    let up = g.greatest ps d i in
    let e : r.tokens * time_of net ps ≤ r.time * tokens_of net ps = grind (arith, up) in
    omega (arith, ints, w, e)

-- the greatest sums of the paths from a member
pub begun_from : (net : NetLists) (part_of : List ℕ) (part : ℕ) → EndsBelow net (length net.transitions) → AreStrong net part_of → (r : Fraction) (s : ℕ)
    → IsMember part_of part s → IsGreatestRatio net (IsPlaceOfPart net part_of part) r
    → (v : ℕ → ℤ) × ((t : ℕ) → IsMember part_of part t → IsGreatestPathTime net part_of part r.time r.tokens s t (v t))
begun_from net part_of part ends strong r s m g = (
  (λ t. (sum_or net part_of part ends strong r.time r.tokens s m (none_gains net part_of part r g) t).0),
  λ t i. (sum_or net part_of part ends strong r.time r.tokens s m (none_gains net part_of part r g) t).1 i,
)

-- what begins a path in the part that is not empty is a member
pub first_member : (net : NetLists) (part_of : List ℕ) (part : ℕ) (ps : List PlaceId) (s t : ℕ) → 0 < length ps → IsPathBetween net s ps t
    → All (IsPlaceOfPart net part_of part) ps → IsMember part_of part s
first_member net part_of part [] s t l path all = absurd (omega arith)
first_member net part_of part (p ∷ ps) s t l path all = subst (λ (z : ℕ). IsMember part_of part z) path.1 (all 0 p (omega arith)).from_member

pub exist : TightPotentialsExist
exist net part_of part r ends strong g =
    let c : List PlaceId = g.attained.0 in
    let round : IsCircuit net c = g.attained.1 in
    let inside = g.attained.2 in
    let a : ℕ = r.time in
    let b : ℕ = r.tokens in
    let s : ℕ = round.closed.0 in
    exist_from net part_of part ends strong a b s (first_member net part_of part c s s round.not_empty round.closed.1 inside)
    (none_gains net part_of part r g)
    c round.not_empty round.closed.1 inside g.attained.3

pub just_at : TightJustAtTheRatio
just_at net part_of part t a b ends live strong m some = (λ w. tell_the_ratio net part_of part t a b w.0 live m some w.1, λ g. exist net part_of part (record { time = a; tokens = b }) ends strong g)
