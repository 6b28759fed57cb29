-- The least dates of a live net are those by its form, and no others are.
use Rattle.std.proofs.Common.{ℕ, ◌+◌, ◌-◌, ◌<◌, ◌≤◌, ◌≡◌, ◌≢◌, List, [], ◌∷◌, length, get_or, refl, sym, ap, subst, ◌∙◌, arith, ⊎_elim}
use Rattle.std.specs.Prelude.{pos, All}
use Rattle.std.proofs.lemmas.Bool.{cases_eq, cases_lt}
use Rattle.std.proofs.lemmas.Int.{ints}
use Rattle.std.proofs.lemmas.List.{get_or_default}
use Rattle.std.proofs.lemmas.List.Sums.{sum_by-cons}
use Rattle.dioid.specs.declared.dates.Date.{Date}
use Rattle.dioid.specs.declared.dates.Date.TheVariants.{Early, At}
use Rattle.dioid.specs.Dates.{IsAtMostDate, delayed}
use Rattle.dioid.proofs.DateOrder.{at_most_trans, later_left}
use Rattle.teg_net.specs.declared.entries.PlaceId.{PlaceId}
use Rattle.teg_net.specs.declared.entries.Place.{Place}
use Rattle.teg_net.specs.Nets.{NetLists, IsInput}
use Rattle.teg_net.specs.Circuits.{no_place, place_at, time_of, tokens_of}
use Rattle.teg_net.specs.ReadyDates.{start_date}
use Rattle.teg_model.specs.Systems.{System}
use Rattle.teg_model.specs.LiveRanks.{AreRanks}
use Rattle.teg_model.specs.Starts.{start_of_firing}
use Rattle.teg_model.specs.Datings.{implicit_place, extended_places, initial_date, available_at, at_input, system_of, IsLeastUnder}
use Rattle.teg_model.proofs.OfNet.{all_extended_in, extended_has, at_input_is, feasible_in, tight_of_least}
use Rattle.teg_model.proofs.Tokens.{available_after, available_first, implicit_gives, dates_climb}
use Rattle.teg_model.proofs.WalkSteps.{feasible_keeps_in}
use Rattle.teg_model.proofs.GreatestWalks.{start_not_before, start_below}
use Rattle.teg_model.proofs.DateFunctions.{Dating}
use Rattle.teg_form.specs.declared.stars.StarEntry.{StarEntry}
use Rattle.teg_form.specs.declared.entries.Entry.{Entry}
use Rattle.teg_form.specs.StandardForms.{FormLists, IsTimeOfFreePath, IsTimeOfMarkedPath, IsStarEntry, IsEntry, IsStandardFormOf}
use Rattle.teg_form.specs.FormDates.{IsNotBeforeForm, AreDatesByForm}
use Rattle.teg_form.proofs.FreePaths.{one_place}
use Rattle.teg_form.proofs.PathDates.{delayed_more, path_keeps}

-- one place with tokens
marked_place : (net : NetLists) (id : PlaceId) → id.index < length net.places
    → IsTimeOfMarkedPath net (place_at net id).from.index (place_at net id).to.index (place_at net id).tokens (place_at net id).hold
marked_place net id l = record {
  first = id;
  others = [];
  path = (l, refl, refl);
  first_tokens = refl;
  no_tokens = refl;
  is = omega (arith, sum_by-cons (λ q. (place_at net q).hold) id []);
}

-- a start is not before 0
pub first_from_zero : (net : NetLists) (u : Dating) (t k : ℕ) → IsAtMostDate (At (pos 0)) (start_of_firing net u t k)
first_from_zero net u t k =
    at_most_trans (At (pos 0)) (At (pos (start_date net t k))) (start_of_firing net u t k) (omega (arith, ints)) (later_left (At (pos (start_date net t k))) (at_input net t (u t k) Early))

module _ (net : NetLists) (form : FormLists) (h : IsStandardFormOf net form) (u x : Dating) (t k : ℕ) (z : Date) (o : 1 ≤ k) (n : IsNotBeforeForm net form u x t k z) where
  -- a place without tokens leads to no more than its star
  by_star : (id : PlaceId) → id.index < length net.places → (place_at net id).tokens ≡ 0 → (place_at net id).to.index ≢ (place_at net id).from.index → (place_at net id).to.index ≡ t
      → IsAtMostDate (delayed (place_at net id).hold (x (place_at net id).from.index k)) z
  by_star id l none apart q =
      let p : Place = place_at net id in
      let path = one_place net id l none in
      let any = h.stars.all p.from.index p.to.index p.hold apart path in
      let e : StarEntry = get_or form.stars any.0 any.1 in
      let is : e ≡ any.1 = any.3 in
      let known : IsStarEntry net e = h.stars.known any.0 any.1 any.2 in
      let to : e.to.index ≡ p.to.index = ap (λ y. y.to.index) is ∙ any.4.0 in
      let from : e.from.index ≡ p.from.index = ap (λ y. y.from.index) is ∙ any.4.1 in
      let longest : p.hold ≤ e.time = known.time.greatest p.hold
      (subst (λ b. IsTimeOfFreePath net e.from.index b p.hold) (sym to) (subst (λ a. IsTimeOfFreePath net a p.to.index p.hold) (sym from) path)) in
      let there : IsAtMostDate (delayed e.time (x p.from.index k)) z = subst (λ a. IsAtMostDate (delayed e.time (x a k)) z) from (n.stars any.0 any.1 any.2 (to ∙ q)) in
      at_most_trans (delayed p.hold (x p.from.index k)) (delayed e.time (x p.from.index k)) z (delayed_more p.hold e.time (x p.from.index k) longest) there

  -- nor one with tokens to more than its entry
  by_entry : (id : PlaceId) → id.index < length net.places → 1 ≤ (place_at net id).tokens → (place_at net id).tokens < k → (place_at net id).to.index ≡ t
      → IsAtMostDate (delayed (place_at net id).hold (x (place_at net id).from.index (k - (place_at net id).tokens))) z
  by_entry id l some few q =
      let p : Place = place_at net id in
      let path = marked_place net id l in
      let any = h.entries.all p.from.index p.to.index p.tokens p.hold some path in
      let e : Entry = get_or form.entries any.0 any.1 in
      let is : e ≡ any.1 = any.3 in
      let known : IsEntry net e = h.entries.known any.0 any.1 any.2 in
      let to : e.to.index ≡ p.to.index = ap (λ y. y.to.index) is ∙ any.4.0 in
      let from : e.from.index ≡ p.from.index = ap (λ y. y.from.index) is ∙ any.4.1 in
      let tokens : e.tokens ≡ p.tokens = ap (λ y. y.tokens) is ∙ any.4.2 in
      let longest : p.hold ≤ e.time =
      known.time.greatest p.hold
      (subst (λ m. IsTimeOfMarkedPath net e.from.index e.to.index m p.hold) (sym tokens)
      (subst (λ b. IsTimeOfMarkedPath net e.from.index b p.tokens p.hold) (sym to) (subst (λ a. IsTimeOfMarkedPath net a p.to.index p.tokens p.hold) (sym from) path))) in
      let before : ℕ = k - p.tokens in
      let there : IsAtMostDate (delayed e.time (x p.from.index before)) z =
      subst (λ m. IsAtMostDate (delayed e.time (x p.from.index (k - m))) z) tokens
      (subst (λ a. IsAtMostDate (delayed e.time (x a (k - e.tokens))) z) from (n.entries any.0 any.1 any.2 (to ∙ q) (omega (arith, tokens, few)))) in
      at_most_trans (delayed p.hold (x p.from.index before)) (delayed e.time (x p.from.index before)) z (delayed_more p.hold e.time (x p.from.index before) longest) there

  -- the tokens that the firing takes from the net's places
  pub own_place : (bound : ℕ) (r : ℕ → ℕ) → AreRanks net.places bound r → (i : ℕ) → i < length net.places
      → (get_or net.places i no_place).to.index ≡ t → IsAtMostDate (available_at x (get_or net.places i no_place) k) z
  own_place bound r rr i l q =
      let id : PlaceId = record { index = i } in
      let p : Place = get_or net.places i no_place in
      ⊎_elim
      (λ (more : p.tokens < k).
      let after = available_after initial_date x p k (x p.from.index (k - p.tokens)) more refl in
      subst (λ d. IsAtMostDate d z) (sym after)
      (⊎_elim
      (λ (none : p.tokens ≡ 0).
      let rise : r p.from.index < r p.to.index = rr.rise i no_place l none in
      let apart : p.to.index ≢ p.from.index = λ e. absurd (omega (arith, rise, ap r e)) in
      let same : k - p.tokens ≡ k = omega (arith, none) in
      subst (λ m. IsAtMostDate (delayed p.hold (x p.from.index m)) z) (sym same) (by_star id l none apart q))
      (λ (some : p.tokens ≢ 0). by_entry id l (omega arith) more q)
      (cases_eq p.tokens 0)))
      (λ (few : k ≤ p.tokens).
      let first = available_first initial_date x p k few in
      let low = (start_not_before net u t k).tokens in
      let own = extended_has net (λ y. y.to.index ≡ t → k ≤ y.tokens → IsAtMostDate (initial_date y k) (start_of_firing net u t k)) (λ j m. low j no_place m) i l q few in
      subst (λ d. IsAtMostDate d z) (sym first) (at_most_trans (initial_date p k) (start_of_firing net u t k) z own n.start))
      (cases_lt p.tokens k)

  -- the firing before
  pub own_before : IsAtMostDate (available_at x (implicit_place t) k) z
  own_before =
      ⊎_elim
      (λ (more : 1 < k).
      let plus : (k - 1) + 1 ≡ k = omega arith in
      let is : available_at x (implicit_place t) k ≡ x t (k - 1) = ap (available_at x (implicit_place t)) (sym plus) ∙ implicit_gives initial_date x t (k - 1) (omega arith) in
      subst (λ d. IsAtMostDate d z) (sym is) (n.before more))
      (λ (first : k ≤ 1).
      let is = available_first initial_date x (implicit_place t) k first in
      let one : k ≡ 1 = omega arith in
      let zero_first : IsAtMostDate (At (pos 0)) (start_of_firing net u t k) = first_from_zero net u t k in
      let date : initial_date (implicit_place t) k ≡ At (pos 0) = ap (initial_date (implicit_place t)) one in
      subst (λ d. IsAtMostDate d z) (sym (is ∙ date)) (at_most_trans (At (pos 0)) (start_of_firing net u t k) z zero_first n.start))
      (cases_lt 1 k)

  pub waits : (bound : ℕ) (r : ℕ → ℕ) → AreRanks net.places bound r → All (λ p. p.to.index ≡ t → IsAtMostDate (available_at x p k) z) (extended_places net)
  waits bound r rr =
      all_extended_in net (λ p. p.to.index ≡ t → IsAtMostDate (available_at x p k) z)
      (λ i d l q. let read = get_or_default net.places i d no_place l in rw read (own_place bound r rr i l (rw read at q)))
      (λ v l q. rw q own_before)

  -- and its release
  pub released : IsInput net t → IsAtMostDate (u t k) z
  released e =
      let low = (start_not_before net u t k).released in
      let is = at_input_is net t (u t k) Early e in
      at_most_trans (u t k) (start_of_firing net u t k) z (subst (λ d. IsAtMostDate d (start_of_firing net u t k)) is low) n.start

-- the least dates are those by the form
pub least_by_form : (net : NetLists) (form : FormLists) (u x : Dating) (bound : ℕ) (r : ℕ → ℕ) → AreRanks net.places bound r
    → IsStandardFormOf net form → IsLeastUnder net u x → AreDatesByForm net form u x
least_by_form net form u x bound r rr h least t k l o =
    let f = least.feasible in
    let s : System = system_of net u in
    let keeps = feasible_keeps_in net initial_date s.release x (feasible_in net u x f) in
    let tight = tight_of_least net u x bound r rr least in
    record {
      not_before = record {
        start = start_below net u x f t k l o;
        before = λ more. let plus : (k - 1) + 1 ≡ k = omega arith in subst (λ m. IsAtMostDate (x t (k - 1)) (x t m)) plus (dates_climb net u x f t (k - 1) l (omega arith));
        stars = λ i d m q.
            let e : StarEntry = get_or form.stars i d in
            let known : IsStarEntry net e = h.stars.known i d m in
            let path = known.time.reached in
            let low = path_keeps net x keeps path.places e.from.index e.to.index k o path.path in
            let end : k + tokens_of net path.places ≡ k = omega (arith, path.no_tokens) in
            subst (λ v. IsAtMostDate (delayed e.time (x e.from.index k)) (x v k)) q
            (subst (λ v. IsAtMostDate (delayed v (x e.from.index k)) (x e.to.index k)) (sym path.is)
            (subst (λ v. IsAtMostDate (delayed (time_of net path.places) (x e.from.index k)) (x e.to.index v)) end low));
        entries = λ i d m q few.
            let e : Entry = get_or form.entries i d in
            let known : IsEntry net e = h.entries.known i d m in
            let path = known.time.reached in
            let all : List PlaceId = path.first ∷ path.others in
            let before : ℕ = k - e.tokens in
            let low = path_keeps net x keeps all e.from.index e.to.index before (omega (arith, few)) path.path in
            let end : before + tokens_of net all ≡ k = omega (arith, few, path.first_tokens, path.no_tokens, sum_by-cons (λ v. (place_at net v).tokens) path.first path.others) in
            subst (λ v. IsAtMostDate (delayed e.time (x e.from.index before)) (x v k)) q
            (subst (λ v. IsAtMostDate (delayed v (x e.from.index before)) (x e.to.index k)) (sym path.is)
            (subst (λ v. IsAtMostDate (delayed (time_of net all) (x e.from.index before)) (x e.to.index v)) end low));
      };
      least = λ z n. tight.tight t k z l o (waits net form h u x t k z o n bound r rr) (released net form h u x t k z o n);
    }
