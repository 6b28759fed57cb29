-- The part of a net that the walks from an input reach: it is a live net, and the least dating of the input alone in it tells that in the net.
use Rattle.std.proofs.Common.{ℕ, ◌+◌, ◌-◌, ◌<◌, ◌≤◌, ◌≡◌, ◌≢◌, Bool, true, false, eqb, cond, List, [], ◌∷◌, ◌++◌, All, IsTrue, filter, map, length}
use Rattle.std.proofs.Common.{get_or, take, replicate, refl, sym, ap, subst, ◌∙◌, arith, ⊎_elim, inl, inr}
use Rattle.std.specs.Prelude.{ℤ, pos, AllPairs, IsSomeAnd, Some, slice_get}
use Rattle.std.proofs.lemmas.Bool.{cases_lt, cases_Bool, cond_both, false≢true}
use Rattle.std.proofs.lemmas.Bool.Decides.{nat_tests}
use Rattle.std.proofs.lemmas.List.{append-nil, get_or_default, get_or_past, get_or-map, get_or-replicate, length-map, map-append}
use Rattle.std.proofs.lemmas.List.Elements.{All-nil, All-cons, All-head, All-tail, All-filter, All-from_get_or, All-map, filter_more, filter_passes}
use Rattle.std.proofs.lemmas.List.Kept.{AllPairs-filter}
use Rattle.std.proofs.lemmas.List.Sums.{sum_by-cons}
use Rattle.dioid.specs.declared.dates.Date.{Date}
use Rattle.dioid.specs.declared.dates.Date.TheVariants.{Early, At, Never}
use Rattle.dioid.specs.Dates.{IsAtMostDate, move}
use Rattle.teg_net.specs.declared.entries.Place.{Place}
use Rattle.teg_net.specs.declared.entries.PlaceId.{PlaceId}
use Rattle.teg_net.specs.declared.entries.Role.TheVariants.{Input, Internal}
use Rattle.teg_net.specs.declared.entries.Transition.{Transition}
use Rattle.teg_net.specs.Names.{is_name}
use Rattle.teg_net.specs.Nets.{NetLists, IsNet, IsInput, IsInputOf, IsPlaceOf}
use Rattle.teg_net.specs.Circuits.{no_place, place_at, IsPathBetween, IsLive, tokens_of}
use Rattle.teg_check.specs.Ranks.{IsRanking}
use Rattle.periodic_laws.specs.teg_model.Systems.{available_in, IsFeasibleIn, IsLeastIn}
use Rattle.periodic_laws.specs.teg_model.Datings.{implicit_place}
use Rattle.periodic_laws.proofs.teg_model_proofs.OfNet.{all_extended_in, extended_has, implicit_is}
use Rattle.periodic_laws.proofs.teg_model_proofs.Tokens.{available_after, available_first}
use Rattle.periodic_laws.proofs.teg_model_proofs.DateFunctions.{Dating}
use Rattle.periodic_laws.specs.settled_laws.SettledForms.{SettledForm, settled_length, row_of, step_of_form, HasSizes, IsShortestForm, IsTail, RepeatsAfter, StandsFor}
use Rattle.walk_times.specs.Alone.{alone, no_tokens, released_alone}
use Rattle.settled_forms.specs.Spread.{is_marked}
use Rattle.walk_times.specs.Reached.{begins_marked, IsReachClosed, AreThose, IsNumbering, ReachLeadsOn, places_from, renumbered}
use Rattle.settled_forms.specs.Spread.{IsSpreadOut}
use Rattle.walk_times.proofs.Numbering.{got}
use Rattle.settled_forms.proofs.Spreading.{spread_sizes}

filter_short : {X : Type 0} (p : X → Bool) (xs : List X) → length (filter p xs) ≤ length xs
filter_short p [] = omega arith
filter_short p (x ∷ xs) =
    let rest = filter_short p xs in
    cond_both (p x) (x ∷ filter p xs) (filter p xs) (λ ys. length ys ≤ length (x ∷ xs)) (λ _. omega (arith, rest)) (λ _. omega (arith, rest))

-- what each element that a filter keeps has, each has that passes it
all_passed : {X : Type 0} (p : X → Bool) (Q : X → Type 0) (xs : List X) → All Q (filter p xs) → All (λ x. p x ≡ true → Q x) xs
all_passed p Q [] h = All-nil (λ x. p x ≡ true → Q x)
all_passed p Q (x ∷ xs) h =
    ⊎_elim
    (λ (e : p x ≡ true).
    let kept : All Q (x ∷ filter p xs) = subst (λ b. All Q (cond b (x ∷ filter p xs) (filter p xs))) e h in
    All-cons (λ y. p y ≡ true → Q y) x xs (λ _. All-head Q x (filter p xs) kept) (all_passed p Q xs (All-tail Q x (filter p xs) kept)))
    (λ (e : p x ≡ false).
    let kept : All Q (filter p xs) = subst (λ b. All Q (cond b (x ∷ filter p xs) (filter p xs))) e h in
    All-cons (λ y. p y ≡ true → Q y) x xs (λ t. absurd (false≢true (sym e ∙ t))) (all_passed p Q xs kept))
    (cases_Bool (p x))

-- what each element that a map makes has, each has that it is made of
unmapped : {X Y : Type 0} (f : X → Y) (Q : Y → Type 0) (xs : List X) → All Q (map f xs) → All (λ x. Q (f x)) xs
unmapped f Q xs h i d l = subst Q (get_or-map f xs i d (f d) l) (h i (f d) (omega (arith, l, length-map xs f)))

-- one place more that begins at a marked transition, or at another
pub kept_more : (marks : List Bool) (new : List ℕ) (ps : List Place) (i : ℕ) (d : Place) → i < length ps → begins_marked marks (get_or ps i d) ≡ true
    → places_from marks new (take (i + 1) ps) ≡ places_from marks new (take i ps) ++ renumbered new (get_or ps i d) ∷ []
kept_more marks new ps i d l e =
    ap (map (renumbered new)) (filter_more (begins_marked marks) ps i d l ∙ ap (λ b. filter (begins_marked marks) (take i ps) ++ cond b (get_or ps i d ∷ []) []) e)
    ∙ map-append (renumbered new) (filter (begins_marked marks) (take i ps)) (get_or ps i d ∷ [])

pub left_out : (marks : List Bool) (new : List ℕ) (ps : List Place) (i : ℕ) (d : Place) → i < length ps → begins_marked marks (get_or ps i d) ≡ false
    → places_from marks new (take (i + 1) ps) ≡ places_from marks new (take i ps)
left_out marks new ps i d l e =
    ap (map (renumbered new)) (filter_more (begins_marked marks) ps i d l
    ∙ (ap (λ b. filter (begins_marked marks) (take i ps) ++ cond b (get_or ps i d ∷ []) []) e ∙ append-nil (filter (begins_marked marks) (take i ps))))

-- marks of all transitions are closed
pub all_closed : (net : NetLists) (input : ℕ) (marks : List Bool) → IsNet net → input < length net.transitions → marks ≡ replicate (length net.transitions) true → IsReachClosed net input marks
all_closed net input marks ok l is =
    let at : (t : ℕ) → t < length net.transitions → is_marked marks t ≡ true = λ t m. ap (λ bs. is_marked bs t) is ∙ get_or-replicate (length net.transitions) t true false m in
    record { begins = at input l; leads_on = λ i d m _. at (get_or net.places i d).to.index (ok.each_place i d m).to_in }

no_transition : Transition
no_transition = record { name = []; role = Internal }

-- along a path without tokens a rank that rises along such places rises by their number or more
rises_along : (net : NetLists) (rank : ℕ → ℕ) → All (λ p. p.tokens ≡ 0 → rank p.from.index < rank p.to.index) net.places
    → (ps : List PlaceId) (a b : ℕ) → IsPathBetween net a ps b → tokens_of net ps ≡ 0 → rank a + length ps ≤ rank b
rises_along net rank r [] a b h t = omega (arith, ap rank h)
rises_along net rank r (p ∷ ps) a b h t =
    let s = sum_by-cons (λ q. (place_at net q).tokens) p ps in
    let here : (place_at net p).tokens ≡ 0 = omega arith in
    let rest : tokens_of net ps ≡ 0 = omega arith in
    let step = r p.index no_place h.0 here in
    let more = rises_along net rank r ps (place_at net p).to.index b h.2 rest in
    omega (arith, ap rank h.1, step, more)

released_self : (i k : ℕ) → released_alone i i k ≡ At (pos 0)
released_self i k = let b : eqb i i ≡ true = grind (arith, nat_tests) in rw b refl

released_not : (i t k : ℕ) → eqb i t ≡ false → released_alone i t k ≡ Early
released_not i t k b = rw b refl

module _ (net : NetLists) (marks : List Bool) (old new : List ℕ) (numbers : IsNumbering marks (length net.transitions) old new) (leads : ReachLeadsOn net marks) (part : NetLists)
    (ts : AreThose net.transitions old part.transitions) (is : part.places ≡ places_from marks new net.places) where
  abbrev from : Place → Bool
  from = begins_marked marks

  abbrev to_new : ℕ → ℕ
  to_new t = get_or new t 0

  abbrev to_old : ℕ → ℕ
  to_old u = get_or old u 0

  -- what holds of each place that begins at a marked transition holds of the places of the part, and the other way round
  all_part : (Q : Place → Type 0) → All (λ p. from p ≡ true → Q (renumbered new p)) net.places → All Q part.places
  all_part Q h =
      subst (All Q) (sym is)
      (All-map Q (renumbered new) (filter from net.places)
      (λ i d l. All-filter from (λ p. from p ≡ true → Q (renumbered new p)) net.places h i d l (filter_passes from net.places i d l)))

  of_part : (Q : Place → Type 0) → All Q part.places → All (λ p. from p ≡ true → Q (renumbered new p)) net.places
  of_part Q h = all_passed from (λ p. Q (renumbered new p)) net.places (unmapped (renumbered new) Q (filter from net.places) (subst (All Q) is h))

  -- its transitions are those of the net
  same_transition : (u : ℕ) → u < length old → slice_get part.transitions u ≡ slice_get net.transitions (to_old u)
  same_transition u l =
      let x : Transition = get_or net.transitions (to_old u) no_transition in
      let in' = numbers.within u l in
      let there : (d : Transition) → x ≡ get_or net.transitions (to_old u) d = λ d. get_or_default net.transitions (to_old u) no_transition d in' in
      let here : slice_get part.transitions u ≡ Some x = got part.transitions u x (omega (arith, l, ts.count)) (λ d. there d ∙ sym (ts.each u d l)) in
      here ∙ sym (got net.transitions (to_old u) x in' there)

  input_of : (u : ℕ) → u < length old → IsInput part u → IsInput net (to_old u)
  input_of u l h = subst (λ o. IsSomeAnd o (λ x. x.role ≡ Input)) (same_transition u l) h

  module _ (ok : IsNet net) where
    place_ends : (p : Place) → IsPlaceOf net p → (from p ≡ true → is_marked marks p.to.index ≡ true) → from p ≡ true → IsPlaceOf part (renumbered new p)
    place_ends p r on f = record {
      from_in = omega (arith, ts.count, numbers.found p.from.index r.from_in f);
      to_in = omega (arith, ts.count, numbers.found p.to.index r.to_in (on f));
      enters_no_input = λ h. r.enters_no_input (subst (IsInput net) (numbers.forth p.to.index r.to_in (on f)) (input_of (to_new p.to.index) (numbers.found p.to.index r.to_in (on f)) h));
      hold_in = r.hold_in;
      tokens_in = r.tokens_in;
      ready_all = inl refl;
      ready_in = λ i d l. absurd (omega arith);
    }

    distinct : AllPairs (λ p q. p.name ≢ q.name) part.places
    distinct =
        let R : Place → Place → Type 0 = λ p q. p.name ≢ q.name in
        let own : List Place = filter from net.places in
        let pairs = AllPairs-filter R from net.places ok.distinct_places in
        subst (AllPairs R) (sym is)
        (λ i j d l m.
        let high : j < length own = omega (arith, m, length-map own (renumbered new)) in
        let low : i < length own = omega arith in
        rw (get_or-map (renumbered new) own i d d low, get_or-map (renumbered new) own j d d high) (pairs i j d l high))

    pub part_is_net : 1 ≤ length old → part.inputs ≡ [] → IsNet part
    part_is_net some none = record {
      some_transition = omega (arith, some, ts.count);
      few_transitions = omega (arith, ts.count, numbers.few, ok.few_transitions);
      few_places = omega (arith, ok.few_places, filter_short from net.places, ap length is, length-map (filter from net.places) (renumbered new));
      transition_names = λ u d l.
          let in' : u < length old = omega (arith, l, ts.count) in
          rw (ts.each u d in') (ok.transition_names (to_old u) d (numbers.within u in'));
      place_names = all_part (λ p. IsTrue (is_name p.name)) (λ i d l f. ok.place_names i d l);
      distinct_transitions = λ i j d l m.
          let high : j < length old = omega (arith, m, ts.count) in
          let low : i < length old = omega arith in
          rw (ts.each i d low, ts.each j d high) (ok.distinct_transitions (to_old i) (to_old j) d (numbers.rises i j l high) (numbers.within j high));
      distinct_places = distinct;
      each_place = all_part (IsPlaceOf part) (λ i d l f. place_ends (get_or net.places i d) (ok.each_place i d l) (leads i d l) f);
      one_list = subst (AllPairs (λ l m. l.transition.index ≢ m.transition.index)) (sym none) (λ i j d l m. absurd (omega arith));
      each_input = subst (All (IsInputOf part)) (sym none) (λ i d l. absurd (omega arith));
    }

    pub part_is_live : (ranks : List ℕ) → IsRanking net ranks → IsLive part
    part_is_live ranks r ps c none =
        let rank : ℕ → ℕ = λ u. get_or ranks (to_old u) 0 in
        let rising : All (λ p. p.tokens ≡ 0 → rank p.from.index < rank p.to.index) part.places =
        all_part (λ p. p.tokens ≡ 0 → rank p.from.index < rank p.to.index)
        (λ i d l f zero.
        let p : Place = get_or net.places i d in
        let e = ok.each_place i d l in
        rw (numbers.forth p.from.index e.from_in f, numbers.forth p.to.index e.to_in (leads i d l f)) (r.rises i d l zero)) in
        absurd (omega (arith, rises_along part rank rising ps c.closed.0 c.closed.0 c.closed.1 none, c.not_empty))

  module _ (ok : IsNet net) (wide : length marks ≡ length net.transitions) (input : ℕ) (begins : is_marked marks input ≡ true) where
    marked_in : (t : ℕ) → is_marked marks t ≡ true → t < length net.transitions
    marked_in t on =
        ⊎_elim
        (λ (l : t < length net.transitions). l)
        (λ (l : length net.transitions ≤ t). absurd (false≢true (sym (get_or_past marks t false (omega (arith, l, wide))) ∙ on)))
        (cases_lt t (length net.transitions))

    pub part_input : IsInput net input → IsInput part (get_or new input 0)
    part_input h =
        let in' = marked_in input begins in
        subst (λ o. IsSomeAnd o (λ x. x.role ≡ Input)) (sym (same_transition (to_new input) (numbers.found input in' begins) ∙ ap (slice_get net.transitions) (numbers.forth input in' begins))) h

    abbrev init : Place → ℕ → Date
    init = no_tokens

    abbrev keeps : Dating → ℕ → Place → Type 0
    keeps y k p = IsAtMostDate (available_in init y p k) (y p.to.index k)

    -- a dating of the net by one of the part, without dates at the other transitions
    abbrev pub told_by : Dating → Dating
    told_by z t k = cond (is_marked marks t) (z (get_or new t 0) k) Early

    module _ (z : Dating) where
      pub told_on : (t k : ℕ) → is_marked marks t ≡ true → told_by z t k ≡ z (get_or new t 0) k
      told_on t k on = ap (λ b. cond b (z (get_or new t 0) k) Early) on

      pub told_off : (t k : ℕ) → is_marked marks t ≡ false → told_by z t k ≡ Early
      told_off t k off = ap (λ b. cond b (z (get_or new t 0) k) Early) off

      -- a place that begins at a marked transition gives the same dates in the part, and another gives none
      gives_same : (p : Place) (k : ℕ) → from p ≡ true → available_in init (told_by z) p k ≡ available_in init z (renumbered new p) k
      gives_same p k on =
          ⊎_elim
          (λ (l : p.tokens < k). available_after init (told_by z) p k (z (to_new p.from.index) (k - p.tokens)) l
          (told_on p.from.index (k - p.tokens) on) ∙ sym (available_after init z (renumbered new p) k (z (to_new p.from.index) (k - p.tokens)) l refl))
          (λ (l : k ≤ p.tokens). available_first init (told_by z) p k l ∙ sym (available_first init z (renumbered new p) k l))
          (cases_lt p.tokens k)

      gives_none : (p : Place) (k : ℕ) → from p ≡ false → available_in init (told_by z) p k ≡ Early
      gives_none p k off =
          ⊎_elim
          (λ (l : p.tokens < k). available_after init (told_by z) p k Early l (told_off p.from.index (k - p.tokens) off))
          (λ (l : k ≤ p.tokens). available_first init (told_by z) p k l)
          (cases_lt p.tokens k)

      place_kept : (p : Place) (k : ℕ) → (from p ≡ true → is_marked marks p.to.index ≡ true) → (from p ≡ true → keeps z k (renumbered new p)) → keeps (told_by z) k p
      place_kept p k ends h =
          ⊎_elim
          (λ (e : from p ≡ true). subst (λ d. IsAtMostDate d (told_by z p.to.index k)) (sym (gives_same p k e))
          (subst (IsAtMostDate (available_in init z (renumbered new p) k)) (sym (told_on p.to.index k (ends e))) (h e)))
          (λ (e : from p ≡ false). subst (λ d. IsAtMostDate d (told_by z p.to.index k)) (sym (gives_none p k e)) tt)
          (cases_Bool (from p))

      -- and the same dates of the net as in the part
      place_narrowed : (y : Dating) (p : Place) (k : ℕ) → p.from.index < length net.transitions → p.to.index < length net.transitions → from p ≡ true → is_marked marks p.to.index ≡ true
          → keeps y k p → keeps (λ u j. y (get_or old u 0) j) k (renumbered new p)
      place_narrowed y p k in' to f on h =
          rw (numbers.forth p.from.index in' f, numbers.forth p.to.index to on) h

      module _ (least : IsLeastIn (alone part (get_or new input 0)) z) where
        told_feasible : IsFeasibleIn (alone net input) (told_by z)
        told_feasible = record {
          places = λ k one.
              let all : All (keeps z k) part.places = All-from_get_or (keeps z k) part.places no_place (extended_has part (keeps z k) (λ i m. least.feasible.places k one i no_place m)) in
              all_extended_in net (keeps (told_by z) k)
              (λ i d l. place_kept (get_or net.places i d) k (leads i d l) (of_part (keeps z k) all i d l))
              (λ t l. place_kept (implicit_place t) k (λ e. e) (λ e.
              let i = implicit_is part (to_new t) (omega (arith, ts.count, numbers.found t l e)) in
              rw i.2 at (least.feasible.places k one i.0 no_place i.1)));
          releases = λ t k one.
              ⊎_elim
              (λ (b : eqb input t ≡ true).
              let same : input ≡ t = grind (arith, nat_tests) in
              let up = subst (IsAtMostDate (released_alone (to_new input) (to_new input) k)) (sym (told_on input k begins)) (least.feasible.releases (to_new input) k one) in
              subst (λ i. IsAtMostDate (released_alone input i k) (told_by z i k)) same
              (subst (λ d. IsAtMostDate d (told_by z input k)) (released_self (to_new input) k ∙ sym (released_self input k)) up))
              (λ (b : eqb input t ≡ false). subst (λ d. IsAtMostDate d (told_by z t k)) (sym (released_not input t k b)) tt)
              (cases_Bool (eqb input t));
        }

        -- each dating of the net is one of the part
        narrow : (y : Dating) → IsFeasibleIn (alone net input) y → IsFeasibleIn (alone part (get_or new input 0)) (λ u k. y (get_or old u 0) k)
        narrow y f = record {
          places = λ k one.
              let all : All (keeps y k) net.places = All-from_get_or (keeps y k) net.places no_place (extended_has net (keeps y k) (λ i m. f.places k one i no_place m)) in
              let own : Dating = λ u j. y (to_old u) j in
              all_extended_in part (keeps own k)
              (all_part (keeps own k) (λ i d l e. place_narrowed y (get_or net.places i d) k (ok.each_place i d l).from_in (ok.each_place i d l).to_in e (leads i d l e) (all i d l)))
              (λ u l.
              let low : u < length old = omega (arith, l, ts.count) in
              let i = implicit_is net (to_old u) (numbers.within u low) in
              rw i.2 at (f.places k one i.0 no_place i.1));
          releases = λ u k one.
              ⊎_elim
              (λ (b : eqb (to_new input) u ≡ true).
              let same : to_new input ≡ u = grind (arith, nat_tests) in
              let back : to_old (to_new input) ≡ input = numbers.forth input (marked_in input begins) begins in
              subst (λ v. IsAtMostDate (released_alone (to_new input) v k) (y (to_old v) k)) same
              (subst (λ d. IsAtMostDate d (y (to_old (to_new input)) k)) (released_self input k ∙ sym (released_self (to_new input) k))
              (subst (λ v. IsAtMostDate (released_alone input input k) (y v k)) (sym back) (f.releases input k one))))
              (λ (b : eqb (to_new input) u ≡ false). subst (λ d. IsAtMostDate d (y (to_old u) k)) (sym (released_not (to_new input) u k b)) tt)
              (cases_Bool (eqb (to_new input) u));
        }

        -- so the least dating of the part tells that of the net
        pub told_least : IsLeastIn (alone net input) (told_by z)
        told_least = record {
          feasible = told_feasible;
          least = λ y f t k one.
              ⊎_elim
              (λ (e : is_marked marks t ≡ true).
              let back : to_old (to_new t) ≡ t = numbers.forth t (marked_in t e) e in
              subst (λ d. IsAtMostDate d (y t k)) (sym (told_on t k e))
              (subst (λ v. IsAtMostDate (z (to_new t) k) (y v k)) back (least.least (λ u j. y (to_old u) j) (narrow y f) (to_new t) k one)))
              (λ (e : is_marked marks t ≡ false). subst (λ d. IsAtMostDate d (y t k)) (sym (told_off t k e)) tt)
              (cases_Bool (is_marked marks t));
        }

      -- and where it repeats, so does that of the part
      down : (u k : ℕ) → u < length old → told_by z (get_or old u 0) k ≡ z u k
      down u k l = told_on (to_old u) k (numbers.marked u l) ∙ ap (λ v. z v k) (numbers.back u l)

      pub repeats_in_part : (after period : ℕ) (step : ℕ → ℤ) → RepeatsAfter (length net.transitions) (told_by z) after period step
          → RepeatsAfter (length part.transitions) z after period (λ u. step (get_or old u 0))
      repeats_in_part after period step h = record {
        at_least_one = h.at_least_one;
        again = λ u k l q.
            let low : u < length old = omega (arith, l, ts.count) in
            sym (down u (k + period) low) ∙ (h.again (to_old u) k (numbers.within u low) q ∙ ap (move (step (to_old u))) (down u k low));
      }

      module _ (f g : SettledForm) (spread : IsSpreadOut marks new f g) (short : IsShortestForm (length part.transitions) f z) where
        abbrev s : StandsFor (length part.transitions) f z
        s = short.stands

        found_in : (t : ℕ) → t < length net.transitions → is_marked marks t ≡ true → to_new t < length part.transitions
        found_in t l e = omega (arith, ts.count, numbers.found t l e)

        row_here : (t : ℕ) → t < length net.transitions → is_marked marks t ≡ true → row_of g t ≡ row_of f (to_new t)
        row_here t l e = spread.rows t (omega (arith, l, numbers.long)) ∙ ap (λ b. cond b (row_of f (to_new t)) (replicate (settled_length f) Early)) e

        step_here : (t : ℕ) → t < length net.transitions → is_marked marks t ≡ true → step_of_form g t ≡ step_of_form f (to_new t)
        step_here t l e = spread.steps t (omega (arith, l, numbers.long)) ∙ ap (λ b. cond b (step_of_form f (to_new t)) (pos 0)) e

        row_there : (t : ℕ) → t < length net.transitions → is_marked marks t ≡ false → row_of g t ≡ replicate (settled_length f) Early
        row_there t l e = spread.rows t (omega (arith, l, numbers.long)) ∙ ap (λ b. cond b (row_of f (to_new t)) (replicate (settled_length f) Early)) e

        step_there : (t : ℕ) → t < length net.transitions → is_marked marks t ≡ false → step_of_form g t ≡ pos 0
        step_there t l e = spread.steps t (omega (arith, l, numbers.long)) ∙ ap (λ b. cond b (step_of_form f (to_new t)) (pos 0)) e

        tail_here : (t : ℕ) (d : Date) → is_marked marks t ≡ true → IsTail (told_by z t) g.after g.period d → IsTail (z (to_new t)) f.after f.period d
        tail_here t d e h k m q = sym (told_on t k e) ∙ h k (omega (arith, m, spread.after)) (omega (arith, q, spread.after, spread.period))

        told_stands : StandsFor (length net.transitions) g (told_by z)
        told_stands = record {
          sizes = subst (λ n. HasSizes n g) numbers.long (spread_sizes (length part.transitions) marks new f g spread s.sizes (λ t l e. found_in t (omega (arith, l, numbers.long)) e));
          dates = λ t k l o m.
              let low : k ≤ settled_length f = omega (arith, m, spread.after, spread.period) in
              ⊎_elim
              (λ (e : is_marked marks t ≡ true).
              ap (λ r. get_or r (k - 1) Early) (row_here t l e) ∙ (s.dates (to_new t) k (found_in t l e) o low ∙ sym (told_on t k e)))
              (λ (e : is_marked marks t ≡ false).
              ap (λ r. get_or r (k - 1) Early) (row_there t l e) ∙ (get_or-replicate (settled_length f) (k - 1) Early Early (omega (arith, low, o)) ∙ sym (told_off t k e)))
              (cases_Bool (is_marked marks t));
          repeats = record {
            at_least_one = omega (arith, spread.period, s.repeats.at_least_one);
            again = λ t k l m.
                ⊎_elim
                (λ (e : is_marked marks t ≡ true).
                rw (step_here t l e, told_on t (k + g.period) e, told_on t k e, spread.period) (s.repeats.again (to_new t) k (found_in t l e) (omega (arith, m, spread.after))))
                (λ (e : is_marked marks t ≡ false). told_off t (k + g.period) e ∙ sym (ap (move (step_of_form g t)) (told_off t k e)))
                (cases_Bool (is_marked marks t));
          };
          still = λ t l h.
              ⊎_elim
              (λ (e : is_marked marks t ≡ true).
              step_here t l e
              ∙ s.still (to_new t) (found_in t l e)
              (⊎_elim
              (λ (n : IsTail (told_by z t) g.after g.period Never). inl (tail_here t Never e n))
              (λ (n : IsTail (told_by z t) g.after g.period Early). inr (tail_here t Early e n))
              h))
              (λ (e : is_marked marks t ≡ false). step_there t l e)
              (cases_Bool (is_marked marks t));
        }

        -- the shortest form of the part, told of the net, is the shortest there
        pub told_shortest : IsShortestForm (length net.transitions) g (told_by z)
        told_shortest = record {
          stands = told_stands;
          least_period = λ k p u rep. omega (arith, spread.period, short.least_period k p (λ v. u (to_old v)) (repeats_in_part k p u rep));
          least_after = λ k p u rep. omega (arith, spread.after, short.least_after k p (λ v. u (to_old v)) (repeats_in_part k p u rep));
        }
