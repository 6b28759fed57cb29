-- The circuits beside a clock are those of the net, and the clock's own.
use Rattle.std.proofs.Common.{ℕ, suc, ◌+◌, ◌*◌, ◌<◌, ◌≤◌, ◌≡◌, ◌≢◌, ◌++◌, List, [], ◌∷◌, length, get_or, set, refl, sym, ap, subst, ◌∙◌, arith, ◌⊎◌, inl, inr, ⊎_elim}
use Rattle.std.specs.Prelude.{All}
use Rattle.std.proofs.lemmas.Bool.{cases_lt, cases_eq}
use Rattle.std.proofs.lemmas.List.{get_or_append_left, get_or-append-add, length-append, length-set, set-append_left, get_or-set_same, get_or-set_other}
use Rattle.std.proofs.lemmas.List.Sums.{sum_by-cons}
use Rattle.std.proofs.lemmas.List.Elements.{All-cons, All-nil}
use Rattle.teg_model.specs.teg_net.declared.entries.PlaceId.{PlaceId}
use Rattle.teg_model.specs.teg_net.declared.entries.Place.{Place}
use Rattle.teg_model.specs.teg_net.Nets.{NetLists}
use Rattle.teg_model.specs.teg_net.Circuits.{no_place, place_at, from_of, IsPathBetween, IsCircuit, time_of, tokens_of}
use Rattle.teg_model.specs.teg_net.Parts.{to_of}
use Rattle.teg_model.specs.teg_net.GreatestRatios.{IsGreatestRatio, IsAnyPlace}
use Rattle.teg_model.proofs.teg_net_proofs.PathLaws.{IsPathBetween-in_range}
use Rattle.workable_laws.specs.WorkablePeriods.{LeavesCircuitsTime}
use Rattle.teg_critical.specs.Slacks.{raised_place, raised}
use Rattle.planning_laws.specs.Clocks.{HasClock, ClocksTellPeriods, ClocksTellSlack}

module _ (net clocked : NetLists) (clock period : ℕ) (h : HasClock net clocked clock period) where
  abbrev n : ℕ
  n = length net.places

  long : length clocked.places ≡ n + 1
  long = ap (λ (ps : List Place). length ps) h.places ∙ length-append net.places (h.loop ∷ [])

  own : (q : PlaceId) → q.index < n → place_at clocked q ≡ place_at net q
  own q l = ap (λ (ps : List Place). get_or ps q.index no_place) h.places ∙ get_or_append_left net.places (h.loop ∷ []) no_place q.index l

  at_loop : (q : PlaceId) → q.index ≡ n → place_at clocked q ≡ h.loop
  at_loop q e =
      let zeroth : n + 0 ≡ n = omega arith in
      ap (λ (ps : List Place). get_or ps q.index no_place) h.places ∙ ap (λ i. get_or (net.places ++ h.loop ∷ []) i no_place) (e ∙ sym zeroth) ∙ get_or-append-add net.places (h.loop ∷ []) 0 no_place

  -- a place beside the clock is one of the net, or the loop
  which : (q : PlaceId) → q.index < length clocked.places → (q.index < n) ⊎ (q.index ≡ n)
  which q l = ⊎_elim (λ (m : q.index < n). inl m) (λ (m : n ≤ q.index). inr (omega (arith, l, m, long))) (cases_lt q.index n)

  path_up : (ps : List PlaceId) (a b : ℕ) → IsPathBetween net a ps b → IsPathBetween clocked a ps b
  path_up [] a b w = w
  path_up (q ∷ ps) a b w =
      let l = w.0 in
      let is = own q l in
      (omega (arith, l, long), ap (λ (p : Place). p.from.index) is ∙ w.1, subst (λ z. IsPathBetween clocked z ps b) (sym (ap (λ (p : Place). p.to.index) is)) (path_up ps (to_of net q) b w.2))

  -- a path that begins elsewhere than at the clock is one of the net
  path_down : (ps : List PlaceId) (a b : ℕ) → a ≢ clock → IsPathBetween clocked a ps b → IsPathBetween net a ps b
  path_down [] a b apart w = w
  path_down (q ∷ ps) a b apart w = ⊎_elim
      (λ (l : q.index < n).
      let is = own q l in
      (l, sym (ap (λ (p : Place). p.from.index) is) ∙ w.1, path_down ps (to_of net q) b (h.to q l) (subst (λ z. IsPathBetween clocked z ps b) (ap (λ (p : Place). p.to.index) is) w.2)))
      (λ (e : q.index ≡ n). absurd (apart (sym w.1 ∙ ap (λ (p : Place). p.from.index) (at_loop q e) ∙ h.is_loop.from)))
      (which q w.0)

  -- one that begins at it goes round the loop
  begins : (q : PlaceId) → q.index < length clocked.places → from_of clocked q ≡ clock → q.index ≡ n
  begins q l from = ⊎_elim
      (λ (m : q.index < n). absurd (h.from q m (sym (ap (λ (p : Place). p.from.index) (own q m)) ∙ from)))
      (λ (e : q.index ≡ n). e)
      (which q l)

  rounds : (ps : List PlaceId) (b : ℕ) → IsPathBetween clocked clock ps b → All (λ q. q.index ≡ n) ps
  rounds [] b w = All-nil (λ q. q.index ≡ n)
  rounds (q ∷ ps) b w =
      let here : q.index ≡ n = begins q w.0 w.1 in
      let to : to_of clocked q ≡ clock = ap (λ (p : Place). p.to.index) (at_loop q here) ∙ h.is_loop.to in
      All-cons (λ x. x.index ≡ n) q ps here (rounds ps b (subst (λ z. IsPathBetween clocked z ps b) to w.2))

  circuit_up : (ps : List PlaceId) → IsCircuit net ps → IsCircuit clocked ps
  circuit_up ps c =
      let inside = IsPathBetween-in_range net ps c.closed.0 c.closed.0 c.closed.1 in
      record {
        not_empty = c.not_empty;
        closed = (c.closed.0, path_up ps c.closed.0 c.closed.0 c.closed.1);
        leaves_once = λ i j d l m e. c.leaves_once i j d l m
            (sym (ap (λ (p : Place). p.from.index) (own (get_or ps i d) (inside i d (omega (arith, l, m))))) ∙ e ∙ ap (λ (p : Place). p.from.index) (own (get_or ps j d) (inside j d m)));
      }

  circuit_down : (ps : List PlaceId) (c : IsCircuit clocked ps) → c.closed.0 ≢ clock → IsCircuit net ps
  circuit_down ps c apart =
      let path = path_down ps c.closed.0 c.closed.0 apart c.closed.1 in
      let inside = IsPathBetween-in_range net ps c.closed.0 c.closed.0 path in
      record {
        not_empty = c.not_empty;
        closed = (c.closed.0, path);
        leaves_once = λ i j d l m e. c.leaves_once i j d l m
            (ap (λ (p : Place). p.from.index) (own (get_or ps i d) (inside i d (omega (arith, l, m)))) ∙ e ∙ sym (ap (λ (p : Place). p.from.index) (own (get_or ps j d) (inside j d m))));
      }

  same_time : (ps : List PlaceId) → All (λ q. q.index < n) ps → (time_of clocked ps ≡ time_of net ps) × (tokens_of clocked ps ≡ tokens_of net ps)
  same_time [] inside = (refl, refl)
  same_time (q ∷ ps) inside =
      let is = own q (inside 0 q (omega arith)) in
      let rest = same_time ps (λ i d l. inside (suc i) d (omega arith)) in
      let hold : (place_at clocked q).hold ≡ (place_at net q).hold = ap (λ (p : Place). p.hold) is in
      let tokens : (place_at clocked q).tokens ≡ (place_at net q).tokens = ap (λ (p : Place). p.tokens) is in
      let one = sum_by-cons (λ x. (place_at clocked x).hold) q ps in
      let two = sum_by-cons (λ x. (place_at net x).hold) q ps in
      let three = sum_by-cons (λ x. (place_at clocked x).tokens) q ps in
      let four = sum_by-cons (λ x. (place_at net x).tokens) q ps in
      (omega (arith, rest.0, hold, one, two), omega (arith, rest.1, tokens, three, four))

  in_net : (ps : List PlaceId) → IsCircuit net ps → All (λ q. q.index < n) ps
  in_net ps c = IsPathBetween-in_range net ps c.closed.0 c.closed.0 c.closed.1

  -- the loop alone
  loop_time : (q : PlaceId) → q.index ≡ n → (time_of clocked (q ∷ []) ≡ period) × (tokens_of clocked (q ∷ []) ≡ 1)
  loop_time q e =
      let is = at_loop q e in
      let hold : (place_at clocked q).hold ≡ period = ap (λ (p : Place). p.hold) is ∙ h.is_loop.hold in
      let tokens : (place_at clocked q).tokens ≡ 1 = ap (λ (p : Place). p.tokens) is ∙ h.is_loop.tokens in
      let one = sum_by-cons (λ x. (place_at clocked x).hold) q [] in
      let two = sum_by-cons (λ x. (place_at clocked x).tokens) q [] in
      (omega (arith, hold, one), omega (arith, tokens, two))

  clock_round : (ps : List PlaceId) → IsCircuit clocked ps → All (λ q. q.index ≡ n) ps → (time_of clocked ps ≡ period) × (tokens_of clocked ps ≡ 1)
  clock_round [] c all = absurd (let l = c.not_empty in omega (arith, l))
  clock_round (q ∷ []) c all = loop_time q (all 0 q (omega arith))
  clock_round (q ∷ r ∷ ps) c all =
      let same : q.index ≡ r.index = all 0 q (omega arith) ∙ sym (all 1 r (omega arith)) in
      absurd (c.leaves_once 0 1 q (omega arith) (omega arith) (ap (λ i. from_of clocked (record { index = i })) same))

  abbrev last : PlaceId
  last = record { index = n }

  loop_circuit : IsCircuit clocked (last ∷ [])
  loop_circuit =
      let is = at_loop last refl in
      let from : from_of clocked last ≡ clock = ap (λ (p : Place). p.from.index) is ∙ h.is_loop.from in
      let to : to_of clocked last ≡ clock = ap (λ (p : Place). p.to.index) is ∙ h.is_loop.to in
      record {
        not_empty = omega arith;
        closed = (clock, (omega (arith, long), from, to));
        leaves_once = λ i j d l m e. absurd (omega (arith, l, m));
      }

  pub greatest_from : LeavesCircuitsTime net period → IsGreatestRatio clocked IsAnyPlace (record { time = period; tokens = 1 })
  greatest_from time = record {
    some = omega arith;
    attained = (
      last ∷ [],
      loop_circuit,
      λ i d l. tt,
      (let e = loop_time last refl in
          let tokens : period * tokens_of clocked (last ∷ []) ≡ period * 1 = ap (λ m. period * m) e.1 in
          let hold = e.0 in
          omega (arith, hold, tokens)),
    );
    token = (let e = loop_time last refl in let tokens = e.1 in omega (arith, tokens));
    greatest = λ ps c all. ⊎_elim
        (λ (e : c.closed.0 ≡ clock).
        let round = clock_round ps c (rounds ps c.closed.0 (subst (λ z. IsPathBetween clocked z ps c.closed.0) e c.closed.1)) in
        let tokens : period * tokens_of clocked ps ≡ period * 1 = ap (λ m. period * m) round.1 in
        let hold = round.0 in
        omega (arith, hold, tokens))
        (λ (apart : c.closed.0 ≢ clock).
        let down = circuit_down ps c apart in
        let same = same_time ps (in_net ps down) in
        let low = time ps down in
        let tokens : period * tokens_of clocked ps ≡ period * tokens_of net ps = ap (λ m. period * m) same.1 in
        let hold = same.0 in
        omega (arith, low, hold, tokens))
        (cases_eq c.closed.0 clock);
  }

  pub time_from : IsGreatestRatio clocked IsAnyPlace (record { time = period; tokens = 1 }) → LeavesCircuitsTime net period
  time_from g ps c =
      let low = g.greatest ps (circuit_up ps c) (λ i d l. tt) in
      let same = same_time ps (in_net ps c) in
      let tokens : period * tokens_of clocked ps ≡ period * tokens_of net ps = ap (λ m. period * m) same.1 in
      let hold = same.0 in
      omega (arith, low, hold, tokens)

pub clocks_tell : ClocksTellPeriods
clocks_tell net clocked clock period h = (λ g. time_from net clocked clock period h g, λ time. greatest_from net clocked clock period h time)

-- ---- a hold that rises

module _ (net : NetLists) (p : PlaceId) (d : ℕ) (in' : p.index < length net.places) where
  -- the ends stay
  ends_stay : (q : PlaceId) → (from_of (raised net p d) q ≡ from_of net q) × (to_of (raised net p d) q ≡ to_of net q)
  ends_stay q = ⊎_elim
      (λ (e : q.index ≡ p.index).
      let is : place_at (raised net p d) q ≡ raised_place d (place_at net q) =
      ap (λ i. get_or (raised net p d).places i no_place) e
      ∙ (get_or-set_same net.places p.index (raised_place d (place_at net p)) no_place in' ∙ ap (λ i. raised_place d (get_or net.places i no_place)) (sym e)) in
      (ap (λ (z : Place). z.from.index) is, ap (λ (z : Place). z.to.index) is))
      (λ (e : q.index ≢ p.index).
      let is : place_at (raised net p d) q ≡ place_at net q = get_or-set_other net.places p.index q.index (raised_place d (place_at net p)) no_place e in
      (ap (λ (z : Place). z.from.index) is, ap (λ (z : Place). z.to.index) is))
      (cases_eq q.index p.index)

clock_stays : (net clocked : NetLists) (clock period : ℕ) → HasClock net clocked clock period → (p : PlaceId) → p.index < length net.places → (d : ℕ)
    → HasClock (raised net p d) (raised clocked p d) clock period
clock_stays net clocked clock period h p in' d =
    let more : List Place = h.loop ∷ [] in
    let long : length (raised net p d).places ≡ length net.places = length-set net.places p.index (raised_place d (place_at net p)) in
    let own : place_at clocked p ≡ place_at net p = ap (λ (ps : List Place). get_or ps p.index no_place) h.places ∙ get_or_append_left net.places more no_place p.index in' in
    let first : (raised clocked p d).places ≡ set (net.places ++ more) p.index (raised_place d (place_at clocked p)) =
    ap (λ (ps : List Place). set ps p.index (raised_place d (place_at clocked p))) h.places in
    let second : set (net.places ++ more) p.index (raised_place d (place_at clocked p)) ≡ set (net.places ++ more) p.index (raised_place d (place_at net p)) =
    ap (λ (z : Place). set (net.places ++ more) p.index (raised_place d z)) own in
    record {
      loop = h.loop;
      is_loop = h.is_loop;
      places = first ∙ (second ∙ set-append_left net.places more p.index (raised_place d (place_at net p)) in');
      from = λ q l e. h.from q (omega (arith, l, long)) (sym (ends_stay net p d in' q).0 ∙ e);
      to = λ q l e. h.to q (omega (arith, l, long)) (sym (ends_stay net p d in' q).1 ∙ e);
    }

pub clocks_tell_slack : ClocksTellSlack
clocks_tell_slack net clocked clock period h p in' d = clocks_tell (raised net p d) (raised clocked p d) clock period (clock_stays net clocked clock period h p in' d)
