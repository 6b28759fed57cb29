-- Where no circuit that avoids a place is above the target, rounds by the other places settle, and potentials come of them.
use Rattle.std.proofs.Common.{ℕ, ℤ, zero, suc, ◌+◌, ◌<◌, ◌≤◌, ◌≡◌, ◌≢◌, ◌+ℤ◌, List, [], ◌∷◌, ◌++◌, length, Some, None, refl, ap, subst, arith, ⊎_elim}
use Rattle.std.specs.Prelude.{◌≤ℤ◌}
use Rattle.std.proofs.lemmas.Int.{ints}
use Rattle.std.proofs.lemmas.List.Elements.{All-append}
use Rattle.teg_net.specs.declared.entries.PlaceId.{PlaceId}
use Rattle.teg_net.specs.Nets.{NetLists, IsNet}
use Rattle.teg_net.specs.Ratios.{Fraction}
use Rattle.teg_net.specs.Circuits.{no_place, place_at, from_of, IsPathBetween}
use Rattle.teg_net.specs.Parts.{to_of}
use Rattle.teg_net.specs.ReducedTimes.{reduced_time_of_place}
use Rattle.teg_net.proofs.NetRules.{net_ends}
use Rattle.teg_net.proofs.PathLaws.{IsPathBetween-append}
use Rattle.teg_loops.specs.Loops.{HasLoop}
use Rattle.teg_loops.proofs.Ends.{ends_below}
use Rattle.teg_loops.proofs.Straight.{loop_or_apart, apart_short}
use Rattle.teg_loops.proofs.Taking.{rest_leads, rest_shorter}
use Rattle.teg_sizing.specs.declared.rounds.ValueCell.{ValueCell}
use Rattle.teg_sizing.specs.ValueRounds.{reduced_time_of_path, Avoids, value_told, by_at, IsAtLeast, round_at, AreRounds}
use Rattle.teg_sizing.specs.TracedPaths.{trace_of}
use Rattle.teg_sizing.specs.Surpluses.{NoneIsAbove}
use Rattle.teg_sizing.proofs.Values.{at_least_less, value_append, value_one, all_first, all_second}
use Rattle.teg_sizing.proofs.Going.{complete}
use Rattle.teg_sizing.proofs.Traces.{IsTraced, traced}

-- a path of fewer places than there are transitions, that avoids the place and has at least the value of ps
pub record IsShortened (net : NetLists) (r : Fraction) (p : PlaceId) (s t : ℕ) (ps : List PlaceId) : Type 0 where
  pub places : List PlaceId
  pub path : IsPathBetween net s places t
  pub avoids : Avoids p places
  pub short : length places < length net.transitions
  pub more : reduced_time_of_path net r ps ≤ℤ reduced_time_of_path net r places

module _ (net : NetLists) (r : Fraction) (p : PlaceId) (ok : IsNet net) (none_above : NoneIsAbove net r p) where
  shortened : (fuel : ℕ) (ps : List PlaceId) (s t : ℕ) → length ps < fuel → t < length net.transitions → IsPathBetween net s ps t → Avoids p ps → IsShortened net r p s t ps
  shortened zero ps s t l in' path avoids = absurd (omega arith)
  shortened (suc fuel) ps s t l in' path avoids = ⊎_elim
      (λ (loop : HasLoop net s t ps).
      let whole : Avoids p (loop.before ++ (loop.loop ++ loop.after)) = subst (Avoids p) loop.is avoids in
      let one : Avoids p loop.before = all_first (λ x. x.index ≢ p.index) loop.before (loop.loop ++ loop.after) whole in
      let others : Avoids p (loop.loop ++ loop.after) = all_second (λ x. x.index ≢ p.index) loop.before (loop.loop ++ loop.after) whole in
      let two : Avoids p loop.loop = all_first (λ x. x.index ≢ p.index) loop.loop loop.after others in
      let three : Avoids p loop.after = all_second (λ x. x.index ≢ p.index) loop.loop loop.after others in
      let less = rest_shorter net s t ps loop in
      let some = loop.circuit.not_empty in
      let rest = shortened fuel (loop.before ++ loop.after) s t (omega arith) in' (rest_leads net s t ps loop) (All-append (λ x. x.index ≢ p.index) loop.before loop.after one three) in
      let low = none_above loop.loop loop.circuit two in
      let is : reduced_time_of_path net r ps ≡ reduced_time_of_path net r (loop.before ++ (loop.loop ++ loop.after)) = ap (reduced_time_of_path net r) loop.is in
      let a = value_append net r loop.before (loop.loop ++ loop.after) in
      let b = value_append net r loop.loop loop.after in
      let c = value_append net r loop.before loop.after in
      let more = rest.more in
      record { places = rest.places; path = rest.path; avoids = rest.avoids; short = rest.short; more = omega (arith, ints) })
      (λ apart. record { places = ps; path = path; avoids = avoids; short = apart_short net (length net.transitions) ps s t (ends_below net (net_ends net ok)) in' path apart; more = omega (arith, ints) })
      (loop_or_apart net ps s t path)

  module _ (first : List ValueCell) (rounds : List (List ValueCell)) (h : AreRounds net r p first rounds) (bare : (t : ℕ) → by_at first t ≡ None)
      (k : ℕ) (long : length rounds ≡ k + 1) (enough : length net.transitions ≤ k) where
    abbrev cells : List ValueCell
    cells = round_at rounds k

    -- the last round tells the end of each other place at least what the place adds to what its start is told
    pub settled : (q : PlaceId) → q.index < length net.places → q.index ≢ p.index → (u : ℤ) → value_told cells (from_of net q) ≡ Some u
        → IsAtLeast (value_told cells (to_of net q)) (u +ℤ reduced_time_of_place r (place_at net q))
    settled q in' apart u told =
        let ps : List PlaceId = trace_of net rounds (suc k) (from_of net q) in
        let w : IsTraced net r p first ps k (from_of net q) u = traced net r p first rounds h bare k (from_of net q) u (omega arith) told in
        let path : IsPathBetween net w.from (ps ++ (q ∷ [])) (to_of net q) = IsPathBetween-append net ps (q ∷ []) w.from (from_of net q) (to_of net q) w.path (in', refl, refl) in
        let avoids : Avoids p (ps ++ (q ∷ [])) = All-append (λ x. x.index ≢ p.index) ps (q ∷ []) w.avoids (alone q apart) in
        let to_in = (ok.each_place q.index no_place in').to_in in
        let s = shortened (suc (length (ps ++ (q ∷ [])))) (ps ++ (q ∷ [])) w.from (to_of net q) (omega arith) to_in path avoids in
        let few = s.short in
        let done = complete net r p first rounds h s.places k w.from (to_of net q) w.start (omega arith) (omega arith) s.path s.avoids w.told in
        let sum = value_append net r ps (q ∷ []) in
        let one = value_one net r q in
        let is = w.is in
        let more = s.more in
        at_least_less (value_told cells (to_of net q)) (u +ℤ reduced_time_of_place r (place_at net q)) (w.start +ℤ reduced_time_of_path net r s.places) (omega (arith, ints)) done where
          alone : (x : PlaceId) → x.index ≢ p.index → Avoids p (x ∷ [])
          alone x ne zero d l = ne
          alone x ne (suc i) d l = absurd (omega arith)
