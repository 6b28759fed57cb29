-- Inputs whose places lead on alike, but that from one all places are held so much longer than from the other: walks from it take so much
-- longer, and so in their settled forms each date outside the inputs comes so much later.
use Rattle.std.proofs.Common.{ℕ, ℤ, pos, ◌+◌, ◌-◌, ◌<◌, ◌≤◌, ◌≡◌, ◌≢◌, ◌==◌, ◌⊎◌, ◌+ℤ◌, ◌-ℤ◌, inl, inr, List, [], ◌∷◌, ◌++◌, All, length, map, take, get_or, refl, sym, subst, ap, ◌∙◌, arith, ⊎_elim}
use Rattle.std.specs.Prelude.{◌≤ℤ◌, Contains, if◌then◌else◌, min}
use Rattle.std.specs.Int.RustNames.{unsigned_abs}
use Rattle.std.proofs.lemmas.Bool.{cases_Bool, cases_lt}
use Rattle.std.proofs.lemmas.Bool.Decides.{nat_tests}
use Rattle.std.proofs.lemmas.Int.{ints}
use Rattle.std.proofs.lemmas.List.{get_or_default, get_or-map, length-map, same_lists}
use Rattle.std.proofs.lemmas.List.Elements.{All-contains, All-push, Contains-get_or}
use Rattle.std.proofs.Math.Seq.{take-suc}
use native.Mathlib.Numerals.{unary_clauses}
use Rattle.std.proofs.lemmas.List.Sums.{sum_by-cons}
use Rattle.dioid.specs.declared.dates.Date.{Date}
use Rattle.dioid.specs.declared.dates.Date.TheVariants.{Early, At, Never}
use Rattle.dioid.specs.Dates.{IsAtMostDate, move}
use Rattle.dioid.proofs.DateOrder.{same_by_at_most}
use Rattle.dioid.proofs.Moves.{at_inj, move_injective, move_rises, move_swap, same_move}
use Rattle.teg_net.specs.declared.entries.Place.{Place}
use Rattle.teg_net.specs.declared.entries.PlaceId.{PlaceId}
use Rattle.teg_net.specs.declared.places_of.PlaceEnd.TheVariants.{From}
use Rattle.teg_net.specs.declared.walks.Step.{Step}
use Rattle.teg_net.specs.declared.walks.Step.TheVariants.{By, Next}
use Rattle.teg_net.specs.Circuits.{no_place, place_at}
use Rattle.teg_net.specs.Limits.{greatest_hold}
use Rattle.teg_net.specs.Nets.{NetLists, IsNet, IsInput}
use Rattle.teg_net.specs.PlaceLists.{ArePlacesOf}
use Rattle.teg_net.specs.Walks.{Walks, step_time, walk_time}
use Rattle.teg_settle.specs.settled_laws.SettledForms.{RepeatsAfter, IsTail, SettledForm, settled_length, row_of, step_of_form, IsShortestForm}
use Rattle.teg_settle.proofs.settled_laws_proofs.Deciding.{same_date}
use Rattle.teg_lags.specs.Lags.{AreLagged, HasHeldLonger, HasHold, IsHeldLonger, LaggedTimesAreMoved, LeadsLonger}
use Rattle.teg_settle.specs.walk_times.Transfers.{AreWalkTimes, IsGreatestWalkTime}
use Rattle.teg_settle.proofs.walk_times_proofs.Walking.{input_within}

-- ---- numbers

zero_back : (m : ℤ) → m ≡ pos 0 → pos 0 -ℤ m ≡ pos 0
zero_back m h = omega (arith, ints)

twice_back : (m : ℤ) → m ≡ pos 0 -ℤ (pos 0 -ℤ m)
twice_back m = omega (arith, ints)

none_more : (n : ℕ) (m : ℤ) → m ≡ pos 0 → pos n ≡ pos n +ℤ m
none_more n m h = omega (arith, ints)

lag_kept : (a b m n : ℕ) (z : ℤ) → a ≡ 0 + m → b ≡ 0 + n → pos m ≡ pos n +ℤ z → pos a ≡ pos b +ℤ z
lag_kept a b m n z d e h =
    let first : a ≡ m = omega arith in
    let other : n ≡ b = omega arith in
    ap pos first ∙ (h ∙ ap (λ (k : ℕ). pos k +ℤ z) other)

lag_first : (a b h g n : ℕ) (z : ℤ) → a ≡ h + n → b ≡ g + n → pos h ≡ pos g +ℤ z → pos a ≡ pos b +ℤ z
lag_first a b h g n z d e f = omega (arith, ints)

back_again : (a b : ℕ) (z : ℤ) → pos a ≡ pos b +ℤ (pos 0 -ℤ z) → pos a +ℤ z ≡ pos b
back_again a b z h = omega (arith, ints)

pub small_lag : (a b : ℕ) (z : ℤ) → pos b ≡ pos a +ℤ z → a ≤ greatest_hold → b ≤ greatest_hold → unsigned_abs z ≤ greatest_hold
small_lag a b z e l m = omega (arith, ints, e, l, m)

no_less : (z : ℤ) → z ≤ℤ z
no_less z = omega (arith, ints)

-- ---- walks

-- s and t are the two transitions, and nothing is added; or one that is neither, and the lag is
abbrev Swaps : ℕ → ℕ → ℤ → ℕ → ℕ → ℤ → Type 0
Swaps u v lag s t more = ((s ≡ u) × (t ≡ v) × (more ≡ pos 0)) ⊎ (((s ≡ v) × (t ≡ u) × (more ≡ pos 0)) ⊎ ((s ≢ u) × (s ≢ v) × (s ≡ t) × (more ≡ lag)))

swaps_back : (u v : ℕ) (lag : ℤ) (s t : ℕ) (more : ℤ) → Swaps u v lag s t more → Swaps v u (pos 0 -ℤ lag) t s (pos 0 -ℤ more)
swaps_back u v lag s t more (inl h) = inl (h.1, h.0, zero_back more h.2)
swaps_back u v lag s t more (inr (inl h)) = inr (inl (h.1, h.0, zero_back more h.2))
swaps_back u v lag s t more (inr (inr h)) = inr (inr (λ e. h.1 (h.2 ∙ e), λ e. h.0 (h.2 ∙ e), sym h.2, ap (λ (z : ℤ). pos 0 -ℤ z) h.3))

-- a walk that begins at no input comes to none
to_no_input : (net : NetLists) → IsNet net → (steps : List Step) (a j t k : ℕ) → (IsInput net a → ⊥) → Walks net a j steps t k → IsInput net t → ⊥
to_no_input net ok [] a j t k outside w is = outside (subst (IsInput net) (sym w.0) is)
to_no_input net ok (By p ∷ steps) a j t k outside w is =
    to_no_input net ok steps (place_at net p).to.index (j + (place_at net p).tokens) t k (ok.each_place p.index no_place w.0).enters_no_input w.2 is
to_no_input net ok (Next ∷ steps) a j t k outside w is = to_no_input net ok steps a (j + 1) t k outside w is

-- steps from a firing of one transition that lead there in so much more time than other steps
pub record LeadsSo (net : NetLists) (v j t k : ℕ) (more : ℤ) (steps : List Step) : Type 0 where
  pub own : List Step
  pub walk : Walks net v j own t k
  pub time : pos (walk_time net own) ≡ pos (walk_time net steps) +ℤ more

module _ (net : NetLists) (ok : IsNet net) (u v : ℕ) (lag : ℤ) (first : IsInput net u) (second : IsInput net v) (longer : LeadsLonger net u v lag) where
  -- walks from one have walks from the other
  led : (steps : List Step) (j s t k : ℕ) (more : ℤ) → Swaps u v lag s t more → Walks net u j steps s k → LeadsSo net v j t k more steps
  led [] j s t k more (inl h) w = record { own = []; walk = (sym h.1, w.1); time = none_more (walk_time net []) more h.2 }
  led [] j s t k more (inr (inl h)) w = record { own = []; walk = (sym h.0 ∙ (sym w.0 ∙ sym h.1), w.1); time = none_more (walk_time net []) more h.2 }
  led [] j s t k more (inr (inr h)) w = absurd (h.0 (sym w.0))
  led (Next ∷ steps) j s t k more h w =
      let rest : LeadsSo net v (j + 1) t k more steps = led steps (j + 1) s t k more h w in
      record {
        own = Next ∷ rest.own;
        walk = rest.walk;
        time = lag_kept (walk_time net (Next ∷ rest.own)) (walk_time net (Next ∷ steps)) (walk_time net rest.own) (walk_time net steps) more
            (sum_by-cons (step_time net) Next rest.own) (sum_by-cons (step_time net) Next steps) rest.time;
      }
  led (By p ∷ steps) j s t k more h w =
      let own = longer p w.0 w.1 in
      let q : PlaceId = own.0 in
      let twin : IsHeldLonger lag (place_at net p) (place_at net q) = own.3 in
      let outside : IsInput net s → ⊥ = to_no_input net ok steps (place_at net p).to.index (j + (place_at net p).tokens) s k (ok.each_place p.index no_place w.0).enters_no_input w.2 in
      let same : (s ≡ t) × (more ≡ lag) = there s t more h outside in
      let tokens : j + (place_at net p).tokens ≡ j + (place_at net q).tokens = ap (λ (n : ℕ). j + n) (sym twin.tokens) in
      let on : Walks net (place_at net q).to.index (j + (place_at net q).tokens) steps t k =
      subst (λ (b : ℕ). Walks net (place_at net q).to.index (j + (place_at net q).tokens) steps b k) same.0
      (subst (λ (a : ℕ). Walks net a (j + (place_at net q).tokens) steps s k) (sym twin.to)
      (subst (λ (n : ℕ). Walks net (place_at net p).to.index n steps s k) tokens w.2)) in
      record {
        own = By q ∷ steps;
        walk = (own.1, own.2, on);
        time = lag_first (walk_time net (By q ∷ steps)) (walk_time net (By p ∷ steps)) (place_at net q).hold (place_at net p).hold (walk_time net steps) more
            (sum_by-cons (step_time net) (By q) steps) (sum_by-cons (step_time net) (By p) steps)
            (subst (λ (z : ℤ). pos (place_at net q).hold ≡ pos (place_at net p).hold +ℤ z) (sym same.1) twin.hold);
      }
    where
      there : (s t : ℕ) (more : ℤ) → Swaps u v lag s t more → (IsInput net s → ⊥) → (s ≡ t) × (more ≡ lag)
      there s t more (inl h) outside = absurd (outside (subst (IsInput net) (sym h.0) first))
      there s t more (inr (inl h)) outside = absurd (outside (subst (IsInput net) (sym h.0) second))
      there s t more (inr (inr h)) outside = (h.2, h.3)

-- there are no two greatest times, and none is Never
below : (net : NetLists) (input t k : ℕ) (d e : Date) → IsGreatestWalkTime net input t k d → IsGreatestWalkTime net input t k e → IsAtMostDate d e
below net input t k d e a b =
    ⊎_elim
    (λ (n : (d ≡ Early) × ((steps : List Step) → Walks net input 1 steps t k → ⊥)). rw n.0 tt)
    (λ (w : (steps : List Step) × Walks net input 1 steps t k × (d ≡ At (pos (walk_time net steps)))). rw w.2 (b.greatest w.0 w.1))
    a.reached

one_time : (net : NetLists) (input t k : ℕ) (d e : Date) → IsGreatestWalkTime net input t k d → IsGreatestWalkTime net input t k e → d ≡ e
one_time net input t k d e a b = same_by_at_most d e (below net input t k d e a b) (below net input t k e d b a)

never_no_time : (net : NetLists) (input t k : ℕ) (d : Date) → IsGreatestWalkTime net input t k d → d ≡ Never → ⊥
never_no_time net input t k d a is =
    ⊎_elim
    (λ (n : (d ≡ Early) × ((steps : List Step) → Walks net input 1 steps t k → ⊥)). let no : Early ≡ Never = sym n.0 ∙ is in absurd (cc))
    (λ (w : (steps : List Step) × Walks net input 1 steps t k × (d ≡ At (pos (walk_time net steps)))). let no : At (pos (walk_time net w.0)) ≡ Never = sym w.2 ∙ is in absurd (cc))
    a.reached

pub lagged_back : (net : NetLists) (u v : ℕ) (lag : ℤ) → AreLagged net u v lag → AreLagged net v u (pos 0 -ℤ lag)
lagged_back net u v lag h = (h.1, subst (LeadsLonger net u v) (twice_back lag) h.0)

module _ (net : NetLists) (ok : IsNet net) (u v : ℕ) (lag : ℤ) (first : IsInput net u) (second : IsInput net v) (lagged : AreLagged net u v lag) where
  on : (steps : List Step) (j s t k : ℕ) (more : ℤ) → Swaps u v lag s t more → Walks net u j steps s k → LeadsSo net v j t k more steps
  on = led net ok u v lag first second lagged.0

  back : (steps : List Step) (j s t k : ℕ) (more : ℤ) → Swaps u v lag s t more → Walks net v j steps t k → LeadsSo net u j s k (pos 0 -ℤ more) steps
  back steps j s t k more h = led net ok v u (pos 0 -ℤ lag) second first lagged.1 steps j t s k (pos 0 -ℤ more) (swaps_back u v lag s t more h)

  -- so the walk times are moved
  moved_time : (s t k : ℕ) (d : Date) (more : ℤ) → Swaps u v lag s t more → IsGreatestWalkTime net u s k d → IsGreatestWalkTime net v t k (move more d)
  moved_time s t k d more h m = record {
    reached = ⊎_elim
        (λ (none : (d ≡ Early) × ((steps : List Step) → Walks net u 1 steps s k → ⊥)).
        inl (ap (move more) none.0, λ steps w. let b : LeadsSo net u 1 s k (pos 0 -ℤ more) steps = back steps 1 s t k more h w in none.1 b.own b.walk))
        (λ (one : (steps : List Step) × Walks net u 1 steps s k × (d ≡ At (pos (walk_time net steps)))).
        let o : LeadsSo net v 1 t k more one.0 = on one.0 1 s t k more h one.1 in
        inr (o.own, o.walk, ap (move more) one.2 ∙ ap At (sym o.time)))
        m.reached;
    greatest = λ steps w.
        let b : LeadsSo net u 1 s k (pos 0 -ℤ more) steps = back steps 1 s t k more h w in
        let up : IsAtMostDate (At (pos (walk_time net b.own) +ℤ more)) (move more d) = move_rises more more (At (pos (walk_time net b.own))) d (no_less more) (m.greatest b.own b.walk) in
        subst (λ (z : ℤ). IsAtMostDate (At z) (move more d)) (back_again (walk_time net b.own) (walk_time net steps) more b.time) up;
  }

  -- at transitions that are no inputs
  apart : (t : ℕ) → (IsInput net t → ⊥) → Swaps u v lag t t lag
  apart t outside = inr (inr (λ e. outside (subst (IsInput net) (sym e) first), λ e. outside (subst (IsInput net) (sym e) second), refl, refl))

  -- a walk to one has one from the other that takes so much longer
  pub lagged_walk : (steps : List Step) (j t k : ℕ) → (IsInput net t → ⊥) → Walks net u j steps t k → LeadsSo net v j t k lag steps
  lagged_walk steps j t k outside w = on steps j t t k lag (apart t outside) w

  pub lagged_time : (t k : ℕ) (d : Date) → (IsInput net t → ⊥) → IsGreatestWalkTime net u t k d → IsGreatestWalkTime net v t k (move lag d)
  lagged_time t k d outside m = moved_time t t k d lag (apart t outside) m

  other : ℕ → ℕ
  other t = if t == v then u else (if t == u then v else t)

  shift : ℕ → ℤ
  shift t = if t == v then pos 0 else (if t == u then pos 0 else lag)

  swaps_other : (t : ℕ) → Swaps u v lag (other t) t (shift t)
  unfolding other shift
  swaps_other t = elim (cases_Bool (t == v)) [
    | inl e ↦ rw e (inl (refl, grind (arith, nat_tests), refl))
    | inr e ↦ rw e (elim (cases_Bool (t == u)) [
      | inl f ↦ rw f (inr (inl (refl, grind (arith, nat_tests), refl)))
      | inr f ↦ rw f (inr (inr (grind (arith, nat_tests), grind (arith, nat_tests), refl, refl)))
    ])
  ]

  other_in : (t : ℕ) → t < length net.transitions → other t < length net.transitions
  unfolding other
  other_in t l = elim (cases_Bool (t == v)) [
    | inl e ↦ rw e (input_within net u first)
    | inr e ↦ rw e (elim (cases_Bool (t == u)) [
      | inl f ↦ rw f (input_within net v second)
      | inr f ↦ rw f l
    ])
  ]

  module _ (x y : ℕ → ℕ → Date) (from_u : AreWalkTimes net u x) (from_v : AreWalkTimes net v y) where
    same : (t k : ℕ) → t < length net.transitions → 1 ≤ k → move (shift t) (x (other t) k) ≡ y t k
    same t k l o =
        one_time net v t k (move (shift t) (x (other t) k)) (y t k) (moved_time (other t) t k (x (other t) k) (shift t) (swaps_other t) (from_u (other t) k (other_in t l) o)) (from_v t k l o)

    moved : (t k : ℕ) → t < length net.transitions → 1 ≤ k → (IsInput net t → ⊥) → move lag (x t k) ≡ y t k
    moved t k l o outside = one_time net v t k (move lag (x t k)) (y t k) (moved_time t t k (x t k) lag (apart t outside) (from_u t k l o)) (from_v t k l o)

    -- and these go on alike
    repeats : (after period : ℕ) (step : ℕ → ℤ) → RepeatsAfter (length net.transitions) x after period step → RepeatsAfter (length net.transitions) y after period (λ t. step (other t))
    repeats after period step h = record {
      at_least_one = h.at_least_one;
      again = λ t k l past. sym (same t (k + period) l (omega arith))
          ∙ (ap (move (shift t)) (h.again (other t) k (other_in t l) past)
          ∙ (move_swap (shift t) (step (other t)) (x (other t) k)
          ∙ ap (move (step (other t))) (same t k l (omega arith))));
    }

-- ---- forms

module _ (net : NetLists) (ok : IsNet net) (u v : ℕ) (lag : ℤ) (first : IsInput net u) (second : IsInput net v) (lagged : AreLagged net u v lag)
    (x y : ℕ → ℕ → Date) (from_u : AreWalkTimes net u x) (from_v : AreWalkTimes net v y) (f g : SettledForm)
    (fs : IsShortestForm (length net.transitions) f x) (gs : IsShortestForm (length net.transitions) g y) where
  -- the shortest ones have one number and one period
  period_is : f.period ≡ g.period
  period_is =
      let down : g.period ≤ f.period = gs.least_period f.after f.period _ (repeats net ok u v lag first second lagged x y from_u from_v f.after f.period (step_of_form f) fs.stands.repeats) in
      let up : f.period ≤ g.period = fs.least_period g.after g.period _
      (repeats net ok v u (pos 0 -ℤ lag) second first (lagged_back net u v lag lagged) y x from_v from_u g.after g.period (step_of_form g) gs.stands.repeats) in
      omega arith

  after_is : f.after ≡ g.after
  after_is =
      let down : g.after ≤ f.after = gs.least_after f.after f.period _ (repeats net ok u v lag first second lagged x y from_u from_v f.after f.period (step_of_form f) fs.stands.repeats) in
      let up : f.after ≤ g.after = fs.least_after g.after g.period _
      (repeats net ok v u (pos 0 -ℤ lag) second first (lagged_back net u v lag lagged) y x from_v from_u g.after g.period (step_of_form g) gs.stands.repeats) in
      omega arith

  module _ (t : ℕ) (within : t < length net.transitions) (outside : IsInput net t → ⊥) where
    moved_here : (k : ℕ) → 1 ≤ k → move lag (x t k) ≡ y t k
    moved_here k o = moved net ok u v lag first second lagged x y from_u from_v t k within o outside

    f_long : length (row_of f t) ≡ settled_length f
    f_long = fs.stands.sizes.full t [] (omega (arith, within, fs.stands.sizes.rows_are))

    g_long : length (row_of g t) ≡ settled_length g
    g_long = gs.stands.sizes.full t [] (omega (arith, within, gs.stands.sizes.rows_are))

    f_at : (i : ℕ) → i < length (row_of f t) → get_or (row_of f t) i Early ≡ x t (i + 1)
    f_at i l =
        let back : (i + 1) - 1 ≡ i = omega arith in
        ap (λ j. get_or (row_of f t) j Early) (sym back) ∙ fs.stands.dates t (i + 1) within (omega arith) (omega (arith, l, f_long))

    g_at : (i : ℕ) → i < length (row_of g t) → get_or (row_of g t) i Early ≡ y t (i + 1)
    g_at i l =
        let back : (i + 1) - 1 ≡ i = omega arith in
        ap (λ j. get_or (row_of g t) j Early) (sym back) ∙ gs.stands.dates t (i + 1) within (omega arith) (omega (arith, l, g_long))

    row_moved : map (move lag) (row_of f t) ≡ row_of g t
    row_moved =
        let long : length (map (move lag) (row_of f t)) ≡ length (row_of f t) = length-map (row_of f t) (move lag) in
        same_lists (map (move lag) (row_of f t)) (row_of g t) (omega (arith, long, f_long, g_long, period_is, after_is))
        (λ i d l.
        let lf : i < length (row_of f t) = omega (arith, l, long) in
        let lg : i < length (row_of g t) = omega (arith, l, long, f_long, g_long, period_is, after_is) in
        get_or-map (move lag) (row_of f t) i Early d lf
        ∙ (ap (move lag) (f_at i lf)
        ∙ (moved_here (i + 1) (omega arith)
        ∙ (sym (g_at i lg) ∙ get_or_default (row_of g t) i Early d lg))))

    -- both steps lead on from each date of the tail
    both : (k : ℕ) → g.after < k → move (step_of_form f t) (y t k) ≡ move (step_of_form g t) (y t k)
    both k past =
        let one : 1 ≤ k = omega (arith, past) in
        let f_on : x t (k + f.period) ≡ move (step_of_form f t) (x t k) = fs.stands.repeats.again t k within (omega (arith, past, after_is)) in
        let g_on : y t (k + g.period) ≡ move (step_of_form g t) (y t k) = gs.stands.repeats.again t k within past in
        ap (move (step_of_form f t)) (sym (moved_here k one))
        ∙ (move_swap (step_of_form f t) lag (x t k)
        ∙ (ap (move lag) (sym f_on)
        ∙ (moved_here (k + f.period) (omega (arith, one))
        ∙ (ap (λ p. y t (k + p)) period_is ∙ g_on))))

    step_is : step_of_form f t ≡ step_of_form g t
    step_is =
        ⊎_elim
        (λ (e : At (step_of_form f t) ≡ At (step_of_form g t)). at_inj _ _ e)
        (λ (no : At (step_of_form f t) ≡ At (step_of_form g t) → ⊥).
        let early : (k : ℕ) → g.after < k → y t k ≡ Early = λ k past.
        ⊎_elim
        (λ (e : step_of_form f t ≡ step_of_form g t). absurd (no (ap At e)))
        (λ (e : (y t k ≡ Early) ⊎ (y t k ≡ Never)).
        ⊎_elim (λ (q : y t k ≡ Early). q) (λ (q : y t k ≡ Never). absurd (never_no_time net v t k (y t k) (from_v t k within (omega (arith, past))) q)) e)
        (same_move (step_of_form f t) (step_of_form g t) (y t k) (both k past)) in
        let g_tail : IsTail (y t) g.after g.period Early = λ k past most. early k past in
        let f_tail : IsTail (x t) f.after f.period Early = λ k past most.
        move_injective lag (x t k) Early (moved_here k (omega (arith, past)) ∙ early k (omega (arith, past, after_is))) in
        fs.stands.still t within (inr f_tail) ∙ sym (gs.stands.still t within (inr g_tail)))
        (same_date (At (step_of_form f t)) (At (step_of_form g t)))

-- ---- settled forms of walk times

pub lagged_times : LaggedTimesAreMoved
lagged_times net ok u v lag first second lagged f g from_u from_v = record {
  after = after_is net ok u v lag first second lagged from_u.0 from_v.0 from_u.1 from_v.1 f g from_u.2 from_v.2;
  period = period_is net ok u v lag first second lagged from_u.0 from_v.0 from_u.1 from_v.1 f g from_u.2 from_v.2;
  rows = λ t within outside. row_moved net ok u v lag first second lagged from_u.0 from_v.0 from_u.1 from_v.1 f g from_u.2 from_v.2 t within outside;
  steps = λ t within outside. step_is net ok u v lag first second lagged from_u.0 from_v.0 from_u.1 from_v.1 f g from_u.2 from_v.2 t within outside;
}

-- ---- lists

leads : (net : NetLists) (lists : List (List PlaceId)) (u v : ℕ) (lag : ℤ) → ArePlacesOf net From lists → u < length net.transitions → v < length net.transitions
    → All (λ p. HasHeldLonger net lag (get_or lists v []) (place_at net p)) (get_or lists u []) → LeadsLonger net u v lag
leads net lists u v lag are u_in v_in each p within from =
    let own = All-contains (λ p. HasHeldLonger net lag (get_or lists v []) (place_at net p)) (get_or lists u []) p each ((are.each u u_in).all p within from) in (
      own.0,
      All-contains (λ q. q.index < length net.places) (get_or lists v []) own.0 (are.each v v_in).known own.1,
      All-contains (λ q. (place_at net q).from.index ≡ v) (get_or lists v []) own.0 (are.each v v_in).right own.1,
      own.2,
    )

-- the places that leave two transitions, each with one that is held so much longer, or shorter
pub lists_lagged : (net : NetLists) (lists : List (List PlaceId)) (u v : ℕ) (lag : ℤ) (firsts others : List PlaceId)
    → ArePlacesOf net From lists → u < length net.transitions → v < length net.transitions
    → firsts ≡ get_or lists u [] → others ≡ get_or lists v []
    → All (λ p. HasHeldLonger net lag others (place_at net p)) firsts → All (λ p. HasHeldLonger net (pos 0 -ℤ lag) firsts (place_at net p)) others → AreLagged net u v lag
lists_lagged net lists u v lag firsts others are u_in v_in a b there back = (
  leads net lists u v lag are u_in v_in (rw (a, b) at there),
  leads net lists v u (pos 0 -ℤ lag) are v_in u_in (rw (a, b) at back),
)

pub known_places : (net : NetLists) (lists : List (List PlaceId)) (u : ℕ) (firsts : List PlaceId) → ArePlacesOf net From lists → u < length net.transitions
    → firsts ≡ get_or lists u [] → All (λ p. p.index < length net.places) firsts
known_places net lists u firsts are u_in is = subst (All (λ p. p.index < length net.places)) (sym is) (are.each u u_in).known

-- one of the places
pub one_longer : (net : NetLists) (lag : ℤ) (others : List PlaceId) (i : ℕ) (d : PlaceId) (p place : Place) → i < length others
    → place ≡ place_at net (get_or others i d) → IsHeldLonger lag p place → HasHeldLonger net lag others p
one_longer net lag others i d p place l there h = (get_or others i d, Contains-get_or others i d l, subst (IsHeldLonger lag p) there h)

-- one more of the first ones
pub one_place_more : (net : NetLists) (lag : ℤ) (others firsts : List PlaceId) (i : ℕ) (d : PlaceId) → i < length firsts → HasHeldLonger net lag others (place_at net (get_or firsts i d))
    → All (λ p. HasHeldLonger net lag others (place_at net p)) (take i firsts) → All (λ p. HasHeldLonger net lag others (place_at net p)) (take (i + 1) firsts)
one_place_more net lag others firsts i d l here h =
    let Has : PlaceId → Type 0 = λ p. HasHeldLonger net lag others (place_at net p) in
    let taken : take (i + 1) firsts ≡ take i firsts ++ get_or firsts i d ∷ [] = simp unary_clauses (take-suc firsts i d l) in
    subst (All Has) (sym taken) (All-push Has (take i firsts) (get_or firsts i d) h here)

-- ---- no other lag

-- the places that leave two transitions that lead on alike
listed : (net : NetLists) (lists : List (List PlaceId)) (u v : ℕ) (lag : ℤ) → ArePlacesOf net From lists → u < length net.transitions → v < length net.transitions
    → LeadsLonger net u v lag → All (λ p. HasHeldLonger net lag (get_or lists v []) (place_at net p)) (get_or lists u [])
listed net lists u v lag are u_in v_in h = λ i d l.
    let own = h (get_or (get_or lists u []) i d) ((are.each u u_in).known i d l) ((are.each u u_in).right i d l) in
    (own.0, (are.each v v_in).all own.0 own.1 own.2, own.3)

-- where there is a place, some place has the least hold
some_least : (net : NetLists) → IsNet net → (places : List PlaceId) (a : ℕ) → All (λ p. p.index < length net.places) places → All (λ p. a ≤ (place_at net p).hold) places
    → (a ≡ greatest_hold) ⊎ HasHold net places a → (p : PlaceId) → Contains places p → HasHold net places a
some_least net ok places a known low at p there =
    ⊎_elim
    (λ (e : a ≡ greatest_hold).
    let within : p.index < length net.places = All-contains (λ q. q.index < length net.places) places p known there in
    let high : (place_at net p).hold ≤ greatest_hold = (ok.each_place p.index no_place within).hold_in in
    let lower : a ≤ (place_at net p).hold = All-contains (λ q. a ≤ (place_at net q).hold) places p low there in
    (p, there, omega (arith, e, high, lower)))
    (λ (h : HasHold net places a). h)
    at

least_longer : (net : NetLists) (firsts others : List PlaceId) (lag : ℤ) (a b : ℕ) → HasHold net firsts a → All (λ q. b ≤ (place_at net q).hold) others
    → All (λ p. HasHeldLonger net lag others (place_at net p)) firsts → pos b ≤ℤ (pos a +ℤ lag)
least_longer net firsts others lag a b at low h =
    let own : HasHeldLonger net lag others (place_at net at.0) = All-contains (λ p. HasHeldLonger net lag others (place_at net p)) firsts at.0 h at.1 in
    let least : b ≤ (place_at net own.0).hold = All-contains (λ q. b ≤ (place_at net q).hold) others own.0 low own.1 in
    let longer : pos (place_at net own.0).hold ≡ pos (place_at net at.0).hold +ℤ lag = own.2.hold in
    let held : (place_at net at.0).hold ≡ a = at.2 in
    omega (arith, ints, least, longer, held)

one_lag : (a b : ℕ) (lag z : ℤ) → pos b ≤ℤ (pos a +ℤ lag) → pos a ≤ℤ (pos b +ℤ (pos 0 -ℤ lag)) → pos b ≡ pos a +ℤ z → lag ≡ z
one_lag a b lag z h k e = omega (arith, ints, h, k, e)

-- the lag by which lists lead on alike is that of their least holds
module _ (net : NetLists) (ok : IsNet net) (firsts others : List PlaceId) (a b : ℕ) (lag z : ℤ)
    (firsts_known : All (λ p. p.index < length net.places) firsts) (others_known : All (λ p. p.index < length net.places) others)
    (a_low : All (λ p. a ≤ (place_at net p).hold) firsts) (b_low : All (λ p. b ≤ (place_at net p).hold) others)
    (a_at : (a ≡ greatest_hold) ⊎ HasHold net firsts a) (b_at : (b ≡ greatest_hold) ⊎ HasHold net others b) (longer : pos b ≡ pos a +ℤ z)
    (on : All (λ p. HasHeldLonger net lag others (place_at net p)) firsts) (back : All (λ p. HasHeldLonger net (pos 0 -ℤ lag) firsts (place_at net p)) others) where
  same_lag : (p q : PlaceId) → Contains firsts p → Contains others q → lag ≡ z
  same_lag p q p_there q_there =
      let a_of : HasHold net firsts a = some_least net ok firsts a firsts_known a_low a_at p p_there in
      let b_of : HasHold net others b = some_least net ok others b others_known b_low b_at q q_there in
      one_lag a b lag z (least_longer net firsts others lag a b a_of b_low on) (least_longer net others firsts (pos 0 -ℤ lag) b a b_of a_low back) longer

  on_by_least : All (λ p. HasHeldLonger net z others (place_at net p)) firsts
  on_by_least = λ i d l.
      let h : HasHeldLonger net lag others (place_at net (get_or firsts i d)) = on i d l in
      subst (λ (y : ℤ). HasHeldLonger net y others (place_at net (get_or firsts i d))) (same_lag (get_or firsts i d) h.0 (Contains-get_or firsts i d l) h.1) h

  back_by_least : All (λ p. HasHeldLonger net (pos 0 -ℤ z) firsts (place_at net p)) others
  back_by_least = λ i d l.
      let h : HasHeldLonger net (pos 0 -ℤ lag) firsts (place_at net (get_or others i d)) = back i d l in
      subst (λ (y : ℤ). HasHeldLonger net (pos 0 -ℤ y) firsts (place_at net (get_or others i d))) (same_lag h.0 (get_or others i d) h.1 (Contains-get_or others i d l)) h

-- so places that lead on alike do by the lag of their least holds
pub led_by_least : (net : NetLists) → IsNet net → (lists : List (List PlaceId)) (u v : ℕ) (lag z : ℤ) (firsts others : List PlaceId) (a b : ℕ)
    → ArePlacesOf net From lists → u < length net.transitions → v < length net.transitions → firsts ≡ get_or lists u [] → others ≡ get_or lists v []
    → All (λ p. a ≤ (place_at net p).hold) firsts → All (λ p. b ≤ (place_at net p).hold) others
    → (a ≡ greatest_hold) ⊎ HasHold net firsts a → (b ≡ greatest_hold) ⊎ HasHold net others b → pos b ≡ pos a +ℤ z → AreLagged net u v lag
    → All (λ p. HasHeldLonger net z others (place_at net p)) firsts × All (λ p. HasHeldLonger net (pos 0 -ℤ z) firsts (place_at net p)) others
led_by_least net ok lists u v lag z firsts others a b are u_in v_in is_first is_other a_low b_low a_at b_at longer lagged =
    let firsts_known : All (λ p. p.index < length net.places) firsts = known_places net lists u firsts are u_in is_first in
    let others_known : All (λ p. p.index < length net.places) others = known_places net lists v others are v_in is_other in
    let on : All (λ p. HasHeldLonger net lag others (place_at net p)) firsts = rw (is_first, is_other) (listed net lists u v lag are u_in v_in lagged.0) in
    let back : All (λ p. HasHeldLonger net (pos 0 -ℤ lag) firsts (place_at net p)) others = rw (is_first, is_other) (listed net lists v u (pos 0 -ℤ lag) are v_in u_in lagged.1) in (
      on_by_least net ok firsts others a b lag z firsts_known others_known a_low b_low a_at b_at longer on back,
      back_by_least net ok firsts others a b lag z firsts_known others_known a_low b_low a_at b_at longer on back,
    )

-- no place so far, and none here
pub none_more_longer : (net : NetLists) (lag : ℤ) (others : List PlaceId) (i : ℕ) (d : PlaceId) (p place : Place) → i < length others
    → place ≡ place_at net (get_or others i d) → (IsHeldLonger lag p place → ⊥)
    → All (λ q. IsHeldLonger lag p (place_at net q) → ⊥) (take i others) → All (λ q. IsHeldLonger lag p (place_at net q) → ⊥) (take (i + 1) others)
none_more_longer net lag others i d p place l there unlike h =
    let Not : PlaceId → Type 0 = λ q. IsHeldLonger lag p (place_at net q) → ⊥ in
    let taken : take (i + 1) others ≡ take i others ++ get_or others i d ∷ [] = simp unary_clauses (take-suc others i d l) in
    subst (All Not) (sym taken) (All-push Not (take i others) (get_or others i d) h (subst (λ (x : Place). IsHeldLonger lag p x → ⊥) there unlike))

pub none_longer : (net : NetLists) (lag : ℤ) (others : List PlaceId) (p : Place) → All (λ q. IsHeldLonger lag p (place_at net q) → ⊥) others → HasHeldLonger net lag others p → ⊥
none_longer net lag others p none h = All-contains (λ q. IsHeldLonger lag p (place_at net q) → ⊥) others h.0 none h.1 h.2

one_of : (a b m : ℕ) → m ≡ min a b → (m ≡ a) ⊎ (m ≡ b)
one_of a b m is = ⊎_elim (λ (l : a < b). inl (omega (arith, is, l))) (λ (l : b ≤ a). inr (omega (arith, is, l))) (cases_lt a b)

-- the least of one place more
pub least_more : (net : NetLists) (places : List PlaceId) (i : ℕ) (d : PlaceId) (old new : ℕ) (place : Place) → i < length places
    → place ≡ place_at net (get_or places i d) → new ≡ min old place.hold
    → (old ≤ greatest_hold) × All (λ p. old ≤ (place_at net p).hold) (take i places) × ((old ≡ greatest_hold) ⊎ HasHold net places old)
    → (new ≤ greatest_hold) × All (λ p. new ≤ (place_at net p).hold) (take (i + 1) places) × ((new ≡ greatest_hold) ⊎ HasHold net places new)
least_more net places i d old new place l there is h =
    let Low : PlaceId → Type 0 = λ p. new ≤ (place_at net p).hold in
    let here : (place_at net (get_or places i d)).hold ≡ place.hold = ap (λ (p : Place). p.hold) (sym there) in
    let taken : take (i + 1) places ≡ take i places ++ get_or places i d ∷ [] = simp unary_clauses (take-suc places i d l) in
    let lower : All Low (take i places) = λ j e m. omega (arith, is, h.1 j e m) in
    let own : Low (get_or places i d) = omega (arith, is, here) in (
      omega (arith, is, h.0),
      subst (All Low) (sym taken) (All-push Low (take i places) (get_or places i d) lower own),
      ⊎_elim
          (λ (e : new ≡ old). subst (λ (n : ℕ). (n ≡ greatest_hold) ⊎ HasHold net places n) (sym e) h.2)
          (λ (e : new ≡ place.hold). inr (get_or places i d, Contains-get_or places i d l, here ∙ sym e))
          (one_of old place.hold new is),
    )
