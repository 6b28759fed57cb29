-- Circuits without tokens never fire; a live net whose input lists go on fires each transition so often as is asked.
use Rattle.std.proofs.Common.{ℕ, zero, suc, pos, ◌<◌, ◌≤◌, ◌≡◌, ◌≢◌, List, [], ◌∷◌, Bool, true, false, Option, Some, None, eqb, length, get_or, refl, sym, ap, ◌∙◌, arith, inl, inr, ⊎_elim}
use Rattle.std.specs.Prelude.{◌⊎◌, All, find, nat_le}
use Rattle.std.proofs.lemmas.Bool.{cases_eq, cases_Bool}
use Rattle.std.proofs.lemmas.List.Elements.{All-tail}
use Rattle.std.proofs.lemmas.List.Sums.{get_or-le-sum_by}
use Rattle.teg_model.specs.dioid.declared.dates.Date.{Date}
use Rattle.teg_model.specs.dioid.declared.dates.Date.TheVariants.{Early, At, Never}
use Rattle.teg_model.specs.dioid.Dates.{delayed, later_of}
use Rattle.teg_model.proofs.dioid_proofs.DateOrder.{at_most_is, later_either}
use Rattle.teg_net.specs.declared.entries.Again.{Again}
use Rattle.teg_net.specs.declared.entries.InputList.{InputList}
use Rattle.teg_net.specs.declared.entries.PlaceId.{PlaceId}
use Rattle.teg_net.specs.declared.entries.Place.{Place}
use Rattle.teg_net.specs.Nets.{NetLists, HasEndsInRange, IsInput}
use Rattle.teg_net.specs.Inputs.{list_date, date_by_list, input_date}
use Rattle.teg_net.specs.ReadyDates.{start_date}
use Rattle.teg_net.specs.Circuits.{place_at, from_of, no_place, IsPathBetween, IsCircuit, IsLive}
use Rattle.teg_net.specs.Walks.{walk_time}
use Rattle.teg_net.proofs.PathLaws.{IsPathBetween-in_range}
use Rattle.teg_model.specs.Datings.{as_date, listed_releases, at_input, system_of, IsLeastDating}
use Rattle.teg_model.specs.Starts.{start_of_firing}
use Rattle.teg_model.specs.WalkDates.{IsDateOfWalk}
use Rattle.teg_model.proofs.DateFunctions.{Dating}
use Rattle.teg_model.proofs.GreatestWalks.{least_is_walk}
use Rattle.teg_model.proofs.LeastOver.{least_over}
use Rattle.teg_model.proofs.LiveRanks.{live_is_ranked}
use Rattle.teg_model.proofs.OfNet.{least_of, least_of_system, input_or_not}
use Rattle.run_laws.specs.declared.fired.Fired.{Fired}
use Rattle.run_laws.specs.Runs.{dates_of_transition, next_number, IsLegalRun}
use Rattle.game_laws.specs.LiveByTheGame.{NoInputListEnds, FiresEach, TokenFreeCircuitsNeverFire, FiringEachShowsLife, LiveNetsFireOn}
use Rattle.run_laws.proofs.Counting.{token_made}
use Rattle.run_laws.proofs.Dates.{dates_of_other}
use Rattle.game_laws.proofs.Gathering.{earliest_exist}
use Rattle.game_laws.proofs.Numbering.{earliest_whole}
use Rattle.run_laws.proofs.InOrder.{earliest_legal}
use Rattle.run_laws.proofs.Prefixes.{along}

abbrev no_id : PlaceId
no_id = record { index = 0 }

-- ---- a circuit enters each transition that it leaves

-- some place of the path ends at transition t
abbrev Enters : NetLists → List PlaceId → ℕ → Type 0
Enters net ps t = (j : ℕ) × (j < length ps) × ((place_at net (get_or ps j no_id)).to.index ≡ t)

enters_last : (net : NetLists) (p : PlaceId) (ps : List PlaceId) (b : ℕ) → IsPathBetween net (place_at net p).to.index ps b → Enters net (p ∷ ps) b
enters_last net p [] b h = (0, omega arith, h)
enters_last net p (q ∷ ps) b h = let more = enters_last net q ps b h.2 in (suc more.0, omega (arith, more.1), more.2)

enters_or_begins : (net : NetLists) (ps : List PlaceId) (a b : ℕ) → IsPathBetween net a ps b → (i : ℕ) (d : PlaceId) → i < length ps
    → (from_of net (get_or ps i d) ≡ a) ⊎ Enters net ps (from_of net (get_or ps i d))
enters_or_begins net [] a b h i d l = absurd (omega arith)
enters_or_begins net (p ∷ ps) a b h zero d l = inl h.1
enters_or_begins net (p ∷ ps) a b h (suc i) d l =
    ⊎_elim
    (λ (e : from_of net (get_or ps i d) ≡ (place_at net p).to.index). inr (0, omega arith, sym e))
    (λ (e : Enters net ps (from_of net (get_or ps i d))). inr (suc e.0, omega (arith, e.1), e.2))
    (enters_or_begins net ps (place_at net p).to.index b h.2 i d (omega arith))

closed_enters : (net : NetLists) (ps : List PlaceId) (a : ℕ) → 0 < length ps → IsPathBetween net a ps a → Enters net ps a
closed_enters net [] a some h = absurd (omega arith)
closed_enters net (p ∷ ps) a some h = enters_last net p ps a h.2

enters_own : (net : NetLists) (ps : List PlaceId) → IsCircuit net ps → (i : ℕ) (d : PlaceId) → i < length ps → Enters net ps (from_of net (get_or ps i d))
enters_own net ps c i d l =
    ⊎_elim
    (λ (e : from_of net (get_or ps i d) ≡ c.closed.0). rw e (closed_enters net ps c.closed.0 c.not_empty c.closed.1))
    (λ (e : Enters net ps (from_of net (get_or ps i d))). e)
    (enters_or_begins net ps c.closed.0 c.closed.0 c.closed.1 i d l)

-- ---- so no transition of a circuit without tokens is the first of it to fire

pub never_fire : TokenFreeCircuitsNeverFire
never_fire net run ps legal c none =
    along net (λ r. All (λ p. dates_of_transition r (from_of net p) ≡ []) ps)
    (λ i d l. refl)
    (λ before f h g i d l.
    let t : ℕ = from_of net (get_or ps i d) in
    ⊎_elim
    (λ (e : f.transition.index ≡ t).
    let at = enters_own net ps c i d l in
    let q : PlaceId = get_or ps at.0 no_id in
    let p : Place = place_at net q in
    let range : q.index < length net.places = IsPathBetween-in_range net ps c.closed.0 c.closed.0 c.closed.1 at.0 no_id at.1 in
    let there = g.tokens q.index no_place range (at.2 ∙ sym e) in
    let made = token_made before p (next_number before f.transition.index) f.date (omega arith) there in
    let no_tokens = get_or-le-sum_by (λ z. (place_at net z).tokens) ps at.0 no_id at.1 in
    let still : length (dates_of_transition before p.from.index) ≡ 0 = ap (λ ds. length ds) (h at.0 no_id at.1) in
    absurd (omega (arith, made, no_tokens, none, still)))
    (λ (e : f.transition.index ≢ t). dates_of_other before f t e ∙ h i d l)
    (cases_eq f.transition.index t))
    run legal

pub shows_life : FiringEachShowsLife
shows_life net run ends legal each ps c none =
    let still : length (dates_of_transition run (from_of net (get_or ps 0 no_id))) ≡ 0 = ap (λ ds. length ds) (never_fire net run ps legal c none 0 no_id c.not_empty) in
    let range = IsPathBetween-in_range net ps c.closed.0 c.closed.0 c.closed.1 0 no_id c.not_empty in
    let some = each (from_of net (get_or ps 0 no_id)) (ends (get_or ps 0 no_id).index no_place range).0 in
    omega (arith, some, still)

-- ---- where no input list ends, no date is never

past_given : (dates : List ℕ) (again : Option Again) (k : ℕ) → again ≢ None → list_date dates again k ≢ None
past_given dates None k some e = some refl
past_given dates (Some a) k some e =
    ⊎_elim
    (λ (q : nat_le k (length dates) ≡ true). let at = rw q at e in cc)
    (λ (q : nat_le k (length dates) ≡ false). let at = rw q at e in cc)
    (cases_Bool (nat_le k (length dates)))

pub found_given : (test : InputList → Bool) (ls : List InputList) (k : ℕ) → All (λ l. l.again ≢ None) ls → date_by_list (find test ls) k ≢ None
found_given test [] k on e = cc
found_given test (l ∷ ls) k on e =
    ⊎_elim
    (λ (q : test l ≡ true). past_given l.dates l.again k (on 0 l (omega arith)) (rw q at e))
    (λ (q : test l ≡ false). found_given test ls k (All-tail (λ m. m.again ≢ None) l ls on) (rw q at e))
    (cases_Bool (test l))

given : (net : NetLists) (t k : ℕ) → NoInputListEnds net → input_date net t k ≢ None
given net t k on e = found_given (λ l. eqb l.transition.index t) net.inputs k on e

pub delayed_never : (n : ℕ) (d : Date) → delayed n d ≡ Never → d ≡ Never
delayed_never n Early e = absurd (at_most_is Never Early (sym e))
delayed_never n (At z) e = absurd (at_most_is Never (delayed n (At z)) (sym e))
delayed_never n Never e = e

never_given : (o : Option ℕ) → as_date o ≡ Never → o ≡ None
never_given None e = refl
never_given (Some d) e = absurd (at_most_is Never (At (pos d)) (sym e))

-- a start that is never is the release of an input
pub never_start : (net : NetLists) (a s : ℕ) → start_of_firing net (listed_releases net) a s ≡ Never → input_date net a s ≡ None
never_start net a s start =
    let ready : Date = At (pos (start_date net a s)) in
    let release : Date = at_input net a (listed_releases net a s) Early in
    ⊎_elim
    (λ (e : later_of ready release ≡ ready). absurd (at_most_is Never ready (sym start ∙ e)))
    (λ (e : later_of ready release ≡ release).
    ⊎_elim
    (λ (i : IsInput net a × (release ≡ listed_releases net a s)). never_given (input_date net a s) (sym i.1 ∙ (sym e ∙ start)))
    (λ (i : (release ≡ Early) × (release ≡ Early)). absurd (at_most_is Never Early (sym start ∙ (e ∙ i.0))))
    (input_or_not net a (listed_releases net a s) Early Early))
    (later_either ready release)

all_come : (net : NetLists) (x : Dating) → HasEndsInRange net → IsLive net → NoInputListEnds net → IsLeastDating net x → (t k : ℕ) → t < length net.transitions → 1 ≤ k → x t k ≢ Never
all_come net x ends live on least t k l o never =
    let ranks = live_is_ranked net ends live in
    let w : IsDateOfWalk net (listed_releases net) t k (x t k) = (least_is_walk net (listed_releases net) x ranks.0 ranks.1 ends ranks.2 least t k l o).reached in
    let start : start_of_firing net (listed_releases net) w.from w.number ≡ Never = sym w.starts ∙ delayed_never (walk_time net w.steps) w.start (sym w.is ∙ never) in
    given net w.from w.number on (never_start net w.from w.number start)

fires_each : (net : NetLists) → HasEndsInRange net → IsLive net → NoInputListEnds net → (most : ℕ) → (run : List Fired) × IsLegalRun net run × FiresEach net most run
fires_each net ends live on most =
    let ranks = live_is_ranked net ends live in
    let u : Dating = listed_releases net in
    let x : Dating = least_over (system_of net u) ranks.0 ranks.1 in
    let least : IsLeastDating net x = least_of_system net u x (least_of net u ranks.0 ranks.1 ranks.2) in
    let made = earliest_exist net x most ends live least in
    let whole = earliest_whole net x most made.0 least made.1 in (
      made.0,
      earliest_legal net x most made.0 ends least made.1,
      λ t l.
          ⊎_elim
          (λ (e : most ≡ 0). omega (arith, whole.no_more t l, e))
          (λ (e : most ≢ 0). whole.count t l (all_come net x ends live on least t most l (omega (arith, e))))
          (cases_eq most 0),
    )

pub fire_on : LiveNetsFireOn
fire_on net ends on = (
  λ live. fires_each net ends live on,
  λ each. let one = each 1 in shows_life net one.0 ends one.1 (λ t l. omega (arith, one.2 t l)),
)
