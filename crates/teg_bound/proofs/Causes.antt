-- What the causes exclude, one after another.
use Rattle.std.proofs.Common.{ℕ, ◌<◌, ◌≤◌, ◌≡◌, ◌≢◌, true, false, ◌==◌, List, [], length, get_or, sym, ap, ◌∙◌, arith, ⊎_elim}
use Rattle.std.specs.Prelude.{Any}
use Rattle.std.proofs.lemmas.Bool.{cases_eq, eqb-true, eq-eqb}
use Rattle.std.proofs.lemmas.List.{nil_from_length, get_or_default}
use Rattle.teg_net.specs.declared.entries.Role.TheVariants.{Input}
use Rattle.teg_net.specs.declared.entries.Place.{Place}
use Rattle.teg_net.specs.Nets.{NetLists}
use Rattle.bound_laws.specs.Critical.{AllReadyAtZero}
use Rattle.teg_bound.specs.PeriodicBounds.{HasPlacesAlone, HasReadyDate}
use Rattle.teg_bound.proofs.Inputs.{input_is_some}

-- the places are none
pub no_places : (places own : List Place) → own ≡ places → (length own == 0) ≡ true → places ≡ []
no_places places own same h = sym same ∙ nil_from_length own (eqb-true (length own) 0 h)

-- they are some
some_places : (places own : List Place) → own ≡ places → (length own == 0) ≡ false → 0 < length places
some_places places own same h =
    let long : length own ≡ length places = ap length same in
    ⊎_elim
    (λ (e : length own ≡ 0). let no : true ≡ false = sym (eq-eqb (length own) 0 e) ∙ h in cc)
    (λ (ne : length own ≢ 0). omega arith)
    (cases_eq (length own) 0)

-- no input, and a place
pub alone : (net : NetLists) (own : List Place) → (Any (λ t. t.role ≡ Input) net.transitions → ⊥) → own ≡ net.places → (length own == 0) ≡ false → HasPlacesAlone net
alone net own none same h = record { no_input = λ t i. none (input_is_some net t i); some_place = some_places net.places own same h }

-- no token that is ready only after 0
pub ready_at_zero : (net : NetLists) → (HasReadyDate net → ⊥) → AllReadyAtZero net
ready_at_zero net none k p l j d m =
    let place : Place = get_or net.places k p in
    let date : ℕ = get_or place.ready j d in
    ⊎_elim
    (λ (e : date ≡ 0). e)
    (λ (ne : date ≢ 0).
    let late : Any (λ (x : ℕ). 1 ≤ x) place.ready = (j, date, m, get_or_default place.ready j date d m, (let some : 1 ≤ date = omega arith in some)) in
    absurd (none (k, place, l, get_or_default net.places k place p l, late)))
    (cases_eq date 0)
