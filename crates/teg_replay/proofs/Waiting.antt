-- What a firing waits for, by all places into its transition or by those that are held longest.
use Rattle.std.proofs.Common.{ℕ, ◌<◌, ◌≤◌, ◌≡◌, ◌≢◌, List, Option, length, get_or, sym, ap, subst, ◌∙◌, arith, ⊎_elim}
use Rattle.std.specs.Prelude.{Result, Ok, Err, IfOk, IfErr}
use Rattle.std.proofs.lemmas.Bool.{cases_eq, cases_lt}
use Rattle.std.proofs.lemmas.List.{get_or_default}
use Rattle.teg_net.specs.declared.entries.PlaceId.{PlaceId}
use Rattle.teg_net.specs.Nets.{NetLists, IsNet}
use Rattle.teg_net.specs.declared.places_of.PlaceEnd.TheVariants.{To}
use Rattle.teg_net.specs.Circuits.{no_place, place_at}
use Rattle.teg_net.specs.PlaceLists.{ListsPlacesAt}
use Rattle.run_laws.specs.declared.fired.Fired.{Fired}
use Rattle.run_laws.specs.Runs.{next_number, token_date, IsThereBy, HasTokensBy}
use Rattle.run_laws.specs.FiringFailures.{IsFirstLateToken}
use Rattle.teg_replay.specs.declared.refusal.FireRefusal.{FireRefusal}
use Rattle.teg_replay.specs.declared.refusal.FireRefusal.TheVariants.{Illegal, BackInTime, BeforeRelease, OutOfMemory}
use Rattle.teg_replay.specs.RefusedFirings.{Fails}
use Rattle.teg_replay.specs.Longest.{ListsLongestAt}
use Rattle.teg_replay.specs.Waits.{IsLatestOf, IsLatestToken, IsLateAt, IsFirstLateOf}
use Rattle.teg_replay.proofs.Latest.{no_id, latest_by}
use Rattle.teg_replay.proofs.LongestHeld.{held_there}

-- a place into the transition is one of the list
pub latest_there : (net : NetLists) (run : List Fired) (f : Fired) (k : ℕ) (ids : List PlaceId) (latest : ℕ) → ListsPlacesAt net To f.transition.index ids → IsLatestOf net run f k ids latest
    → IsLatestToken net run f.transition.index k latest
latest_there net run f k ids latest into h = record {
  enough = λ q d l e.
      let same : get_or net.places q d ≡ get_or net.places q no_place = get_or_default net.places q d no_place l in
      let at = into.all (record { index = q }) l (rw same at e) in
      rw same (rw at.2 at (h.enough at.0 (record { index = q }) at.1));
  first = h.first;
}

-- one of the list is held as long as it
pub longest_there : (net : NetLists) (run : List Fired) (f : Fired) (k : ℕ) (ids : List PlaceId) (latest : ℕ) → IsNet net → ListsLongestAt net f.transition.index ids → 1000 < k
    → IsLatestOf net run f k ids latest → IsLatestToken net run f.transition.index k latest
longest_there net run f k ids latest ok longest late h = record {
  enough = λ q d l e.
      let same : get_or net.places q d ≡ get_or net.places q no_place = get_or_default net.places q d no_place l in
      let at = longest.all (record { index = q }) l (rw same at e) in
      let there : IsThereBy latest (token_date run (place_at net at.1) k) = subst (λ p. IsThereBy latest (token_date run (place_at net p) k)) at.3 (h.enough at.0 at.1 at.2) in
      let few = (ok.each_place q no_place l).tokens_in in
      rw same (held_there run (place_at net at.1) (get_or net.places q no_place) k latest at.4.from at.4.tokens at.4.hold (omega (arith, few, late)) there);
  first = h.first;
}

-- the first place of the list whose token is not there is the lowest numbered one
first_late : (net : NetLists) (run : List Fired) (f : Fired) (k : ℕ) (ids : List PlaceId) (id : PlaceId) (there : Option ℕ) → ListsPlacesAt net To f.transition.index ids
    → k ≡ next_number run f.transition.index → IsLateAt net run f k ids id there → IsFirstLateToken net run f id there
first_late net run f k ids id there into number h =
    let i : ℕ = h.at in
    let low : id.index < length net.places = rw (h.is no_id) at (into.known i no_id h.within) in
    record {
      in_range = low;
      into = rw (h.is no_id) at (into.right i no_id h.within);
      date = rw number at h.date;
      late = h.late;
      lowest = λ other m e.
          let at = into.all other (omega (arith, low, m)) e in
          ⊎_elim
          (λ (q : at.0 < i). rw number at (rw at.2 at (h.before at.0 other q)))
          (λ (q : i ≤ at.0).
          ⊎_elim
          (λ (s : at.0 ≡ i). let one : other ≡ id = sym at.2 ∙ (ap (λ x. get_or ids x other) s ∙ h.is other) in let two = ap (λ x. x.index) one in absurd (omega (arith, m, two)))
          (λ (s : at.0 ≢ i).
          let up = into.rising i at.0 other (omega (arith, q, s)) at.1 in
          let a = ap (λ x. x.index) (h.is other) in
          let b = ap (λ x. x.index) at.2 in
          absurd (omega (arith, m, up, a, b)))
          (cases_eq at.0 i))
          (cases_lt at.0 i);
    }

pub late_fails : (net : NetLists) (run : List Fired) (f : Fired) (k : ℕ) (ids : List PlaceId) (why : FireRefusal) → ListsPlacesAt net To f.transition.index ids
    → k ≡ next_number run f.transition.index → IsFirstLateOf net run f k ids why → Fails net run f why
late_fails net run f k ids (Illegal id there) into number h = first_late net run f k ids id there into number h
late_fails net run f k ids (BackInTime last) into number h = absurd h
late_fails net run f k ids (BeforeRelease release) into number h = absurd h
late_fails net run f k ids OutOfMemory into number h = absurd h

pub all_latest : (net : NetLists) (run : List Fired) (f : Fired) (k : ℕ) (ids : List PlaceId) (r : Result ℕ FireRefusal) → ListsPlacesAt net To f.transition.index ids
    → IfOk r (IsLatestOf net run f k ids) → IfOk r (IsLatestToken net run f.transition.index k)
all_latest net run f k ids (Ok latest) into h = latest_there net run f k ids latest into h
all_latest net run f k ids (Err why) into h = tt

pub all_tokens : (net : NetLists) (run : List Fired) (f : Fired) (k : ℕ) (ids : List PlaceId) (r : Result ℕ FireRefusal) → ListsPlacesAt net To f.transition.index ids
    → IfOk r (IsLatestOf net run f k ids) → IfOk r (λ _. HasTokensBy net run f.transition.index k f.date)
all_tokens net run f k ids (Ok latest) into h = latest_by net run f.transition.index k latest f.date h.by (latest_there net run f k ids latest into h).enough
all_tokens net run f k ids (Err why) into h = tt

pub all_fails : (net : NetLists) (run : List Fired) (f : Fired) (k : ℕ) (ids : List PlaceId) (r : Result ℕ FireRefusal) → ListsPlacesAt net To f.transition.index ids
    → k ≡ next_number run f.transition.index → IfErr r (IsFirstLateOf net run f k ids) → IfErr r (Fails net run f)
all_fails net run f k ids (Ok latest) into number h = tt
all_fails net run f k ids (Err why) into number h = late_fails net run f k ids why into number h
