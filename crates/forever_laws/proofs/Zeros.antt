-- With all inputs at 0 each least date is a number: that of a walk, its start and its time, whose number is not great where it starts late.
use Rattle.std.proofs.Common.{ℕ, suc, ◌+◌, ◌-◌, ◌*◌, ◌<◌, ◌≤◌, ◌≡◌, List, [], ◌∷◌, ◌++◌, length, refl, sym, ap, subst, ◌∙◌, arith, ⊎_elim}
use Rattle.std.specs.Prelude.{pos, All, Any}
use Rattle.std.proofs.lemmas.Bool.{cases_lt}
use Rattle.std.proofs.lemmas.Int.{ints}
use Rattle.std.proofs.lemmas.List.Sums.{sum_by-append}
use Rattle.walk_times.specs.dioid.declared.dates.Date.{Date}
use Rattle.walk_times.specs.dioid.declared.dates.Date.TheVariants.{Early, At}
use Rattle.walk_times.specs.dioid.Dates.{IsAtMostDate, delayed, later_of}
use Rattle.walk_times.proofs.dioid_proofs.DateOrder.{later_is_left}
use Rattle.teg_net.specs.declared.entries.PlaceId.{PlaceId}
use Rattle.teg_net.specs.declared.entries.Place.{Place}
use Rattle.teg_net.specs.Nets.{NetLists, HasEndsInRange, IsInput}
use Rattle.teg_net.specs.Circuits.{place_at, IsPathBetween, IsLive, time_of, tokens_of}
use Rattle.teg_net.specs.Walks.{Walks, walk_time}
use Rattle.teg_net.specs.ReadyDates.{ready_date, start_date}
use Rattle.teg_net.proofs.StartDates.{IsStartDate-start_date}
use Rattle.teg_net.proofs.PathLaws.{IsPathBetween-append}
use Rattle.walk_times.specs.teg_model.Datings.{IsLeastUnder, at_input}
use Rattle.walk_times.specs.teg_model.Starts.{start_of_firing}
use Rattle.walk_times.specs.teg_model.WalkDates.{IsDateOfWalk, IsGreatestOfWalks}
use Rattle.walk_times.proofs.teg_model_proofs.OfNet.{input_or_not}
use Rattle.walk_times.proofs.teg_model_proofs.GreatestWalks.{least_is_walk}
use Rattle.walk_times.proofs.teg_model_proofs.LiveRanks.{live_ranks}
use Rattle.due_laws.specs.MeetingDueDates.{inputs_at_zero}
use Rattle.bound_laws.proofs.Unrolled.{unrolled, Pathed, pathed, Stepped, stepped}
use Rattle.bound_laws.proofs.WalkTimes.{number_of, Waiting, waiting}
use Rattle.teg_loops.proofs.Visits.{rounds, rounds_lead, rounds_sum}
use Rattle.forever_laws.proofs.Late.{ReachedFrom}

-- the start of a firing
pub zero_start : (net : NetLists) (t k : ℕ) → start_of_firing net inputs_at_zero t k ≡ At (pos (start_date net t k))
zero_start net t k =
    ⊎_elim
    (λ (e : IsInput net t × (at_input net t (At (pos 0)) Early ≡ At (pos 0))).
    ap (later_of (At (pos (start_date net t k)))) e.1 ∙ later_is_left (At (pos (start_date net t k))) (At (pos 0)) (omega (arith, ints)))
    (λ (e : (at_input net t (At (pos 0)) Early ≡ Early) × (at_input net t (At (pos 0)) Early ≡ Early)).
    ap (later_of (At (pos (start_date net t k)))) e.0 ∙ later_is_left (At (pos (start_date net t k))) Early tt)
    (input_or_not net t (At (pos 0)) Early Early)

pub at_later : (s h : ℕ) → delayed h (At (pos s)) ≡ At (pos (s + h))
at_later s h = ap At (omega (arith, ints))

pub at_most_numbers : (h k : ℕ) → IsAtMostDate (At (pos h)) (At (pos k)) → h ≤ k
at_most_numbers h k l = omega (arith, ints, l)

module _ (net : NetLists) (ends : HasEndsInRange net) (live : IsLive net) (x : ℕ → ℕ → Date) (least : IsLeastUnder net inputs_at_zero x) where
  walks : (t k : ℕ) → t < length net.transitions → 1 ≤ k → IsGreatestOfWalks net inputs_at_zero t k (x t k)
  walks t k l o =
      let ranks = live_ranks net ends live in
      least_is_walk net inputs_at_zero x (suc (suc (length net.transitions))) ranks.0 ends ranks.1 least t k l o

  -- the date of firing k
  abbrev pub least_number : ℕ → ℕ → ℕ
  least_number t k = number_of (x t k)

  walk_is : (t k : ℕ) (w : IsDateOfWalk net inputs_at_zero t k (x t k)) → x t k ≡ At (pos (start_date net w.from w.number + walk_time net w.steps))
  walk_is t k w = w.is ∙ (ap (delayed (walk_time net w.steps)) (w.starts ∙ zero_start net w.from w.number) ∙ at_later (start_date net w.from w.number) (walk_time net w.steps))

  pub date_is : (t k : ℕ) → t < length net.transitions → 1 ≤ k → x t k ≡ At (pos (least_number t k))
  date_is t k l o =
      let w : IsDateOfWalk net inputs_at_zero t k (x t k) = (walks t k l o).reached in
      let e = walk_is t k w in
      e ∙ ap (λ z. At (pos (number_of z))) (sym e)

  -- a walk's start and time come no later
  pub walk_most : (t k a s : ℕ) (steps : _) → t < length net.transitions → 1 ≤ k → a < length net.transitions → 1 ≤ s
      → Walks net a s steps t k → start_date net a s + walk_time net steps ≤ least_number t k
  walk_most t k a s steps l o la os w =
      let h : IsDateOfWalk net inputs_at_zero t k (delayed (walk_time net steps) (start_of_firing net inputs_at_zero a s)) =
      record { from = a; number = s; steps = steps; start = start_of_firing net inputs_at_zero a s; from_in = la; from_one = os; walk = w; starts = refl; is = refl } in
      let below = (walks t k l o).greatest (delayed (walk_time net steps) (start_of_firing net inputs_at_zero a s)) h in
      let left : delayed (walk_time net steps) (start_of_firing net inputs_at_zero a s) ≡ At (pos (start_date net a s + walk_time net steps)) =
      ap (delayed (walk_time net steps)) (zero_start net a s) ∙ at_later (start_date net a s) (walk_time net steps) in
      at_most_numbers (start_date net a s + walk_time net steps) (least_number t k)
      (subst (λ z. IsAtMostDate (At (pos (start_date net a s + walk_time net steps))) z) (date_is t k l o) (subst (λ z. IsAtMostDate z (x t k)) left below))

  -- so of the paths of the net with its implicit places
  pub path_most : (t a s : ℕ) (ps : List PlaceId) → t < length net.transitions → a < length net.transitions → 1 ≤ s → IsPathBetween (unrolled net) a ps t
      → start_date net a s + time_of (unrolled net) ps ≤ least_number t (s + tokens_of (unrolled net) ps)
  path_most t a s ps l la os h =
      let w : Stepped net a t s ps = stepped net ps a t s h in
      let most = walk_most t w.number a s w.steps l (let e = w.number_is in omega arith) la os w.walks in
      let same : least_number t w.number ≡ least_number t (s + tokens_of (unrolled net) ps) = ap (least_number t) w.number_is in
      let time = w.time in
      omega arith

  -- a start above 0 is a ready date, so its number is no greater than the tokens of some place
  late_start : (most : ℕ) → All (λ p. p.tokens ≤ most) net.places → (a s : ℕ) → 0 < start_date net a s → s ≤ most
  late_start most all a s some =
      ⊎_elim
      (λ (none : start_date net a s ≡ 0). absurd (omega arith))
      (λ (one : Any (λ p. (p.to.index ≡ a) × (s ≤ p.tokens) × (ready_date p s ≡ start_date net a s)) net.places).
      let (i, p, l, r, (into, few, e)) = one in
      let low : p.tokens ≤ most = subst (λ (q : Place). q.tokens ≤ most) r (all i p l) in
      omega arith)
      (IsStartDate-start_date net a s).reached

  waits : (a : ℕ) → a < length net.transitions → (m : ℕ) → (ps : List PlaceId) × IsPathBetween (unrolled net) a ps a × (tokens_of (unrolled net) ps ≡ m) × (time_of (unrolled net) ps ≡ 0)
  waits a la m =
      let wait : Waiting net a = waiting net a la in
      let one : tokens_of (unrolled net) (rounds m (wait.id ∷ [])) ≡ m * 1 = rounds_sum (λ p. (place_at (unrolled net) p).tokens) (wait.id ∷ []) m ∙ ap (λ (z : ℕ). m * z) wait.tokens in
      let two : time_of (unrolled net) (rounds m (wait.id ∷ [])) ≡ m * 0 = rounds_sum (λ p. (place_at (unrolled net) p).hold) (wait.id ∷ []) m ∙ ap (λ (z : ℕ). m * z) wait.time in
      (rounds m (wait.id ∷ []), rounds_lead (unrolled net) a (wait.id ∷ []) m wait.path, omega arith, omega arith)

  pub reached : (most : ℕ) → 1 ≤ most → All (λ p. p.tokens ≤ most) net.places → (t k : ℕ) → t < length net.transitions → 1 ≤ k
      → ReachedFrom (unrolled net) (length net.transitions) most least_number t k
  reached most some all t k l o =
      let w : IsDateOfWalk net inputs_at_zero t k (x t k) = (walks t k l o).reached in
      let path : Pathed net w.from t w.number k w.steps = pathed net ends w.steps w.from w.number t k w.from_in w.walk in
      let e : least_number t k ≡ start_date net w.from w.number + walk_time net w.steps = ap number_of (walk_is t k w) in
      let time = path.time in
      let number = path.number in
      ⊎_elim
      (λ (late : 0 < start_date net w.from w.number).
      record {
        from = w.from;
        number = w.number;
        start = start_date net w.from w.number;
        walk = path.places;
        from_in = w.from_in;
        early = late_start most all w.from w.number late;
        leads = path.path;
        number_is = sym number;
        date_is = omega arith;
        greatest = λ u ps lu h. path_most u w.from w.number ps lu w.from_in w.from_one h;
      })
      (λ (none : start_date net w.from w.number ≤ 0).
      let before = waits w.from w.from_in (w.number - 1) in
      let f : PlaceId → ℕ = λ p. (place_at (unrolled net) p).tokens in
      let g : PlaceId → ℕ = λ p. (place_at (unrolled net) p).hold in
      let three : tokens_of (unrolled net) (before.0 ++ path.places) ≡ tokens_of (unrolled net) before.0 + tokens_of (unrolled net) path.places = sum_by-append f before.0 path.places in
      let four : time_of (unrolled net) (before.0 ++ path.places) ≡ time_of (unrolled net) before.0 + time_of (unrolled net) path.places = sum_by-append g before.0 path.places in
      let five = before.2 in
      let six = before.3 in
      let one = w.from_one in
      record {
        from = w.from;
        number = 1;
        start = 0;
        walk = before.0 ++ path.places;
        from_in = w.from_in;
        early = omega arith;
        leads = IsPathBetween-append (unrolled net) before.0 path.places w.from w.from t before.1 path.path;
        number_is = omega arith;
        date_is = omega arith;
        greatest = λ u ps lu h. (let most = path_most u w.from 1 ps lu w.from_in (omega arith) h in omega arith);
      })
      (cases_lt 0 (start_date net w.from w.number))
