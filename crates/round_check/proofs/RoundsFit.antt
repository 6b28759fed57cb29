-- The conditions that are checked are those of a round.
use Rattle.std.proofs.Common.{ℕ, ◌<◌, ◌≤◌, ◌≡◌, ◌≢◌, List, [], ◌∷◌, true, false, eqb, length, get_or, refl, sym, ap, subst, ◌∙◌, arith, ⊎_elim}
use Rattle.std.specs.Prelude.{pos, ◌+ℤ◌, All}
use Rattle.std.proofs.lemmas.Bool.{cases_eq, eq-eqb, ne_eqb}
use Rattle.std.proofs.lemmas.List.Elements.{All-cons}
use Rattle.teg_net.specs.declared.entries.PlaceId.{PlaceId}
use Rattle.teg_net.specs.declared.rounds.Choice.{Choice}
use Rattle.teg_net.specs.declared.rounds.Round.{Round}
use Rattle.teg_net.specs.Nets.{NetLists}
use Rattle.teg_net.specs.Circuits.{BeginsLowest, from_of}
use Rattle.teg_net.specs.Parts.{IsMember, ListsMembers}
use Rattle.teg_net.specs.PartAnswers.{first_transition_of}
use Rattle.teg_net.specs.Ratios.{Fraction, IsLowestTerms}
use Rattle.teg_net.specs.ReducedTimes.{reduced_time}
use Rattle.policy_rounds.specs.Policies.{AreSums, Enters, IsPolicy}
use Rattle.policy_rounds.specs.PolicyRounds.{IsRound, chosen, chosen_for, chosen_place, potential, value_in}
use Rattle.policy_rounds.proofs.ListedChoices.{begins_lowest, only_members}
use Rattle.round_check.specs.Checks.{AreEntered, AreSumsTold, FitsRound, sum_told}
use Rattle.round_check.proofs.Choosing.{none_chosen, own_at, stands_at}

module _ (net : NetLists) (parts : List ℕ) (part : ℕ) (r : Round) (h : ListsMembers parts part (chosen_for r.choices.items)) where
  abbrev cs : List Choice
  cs = r.choices.items

  place_at : (i : ℕ) (d : Choice) → i < length cs → chosen r (get_or cs i d).transition.index ≡ (get_or cs i d).place
  place_at i d l = ap chosen_place (own_at parts part cs h i d l)

  value_at : (i : ℕ) (d : Choice) → i < length cs → potential r (get_or cs i d).transition.index ≡ (get_or cs i d).value
  value_at i d l = ap value_in (own_at parts part cs h i d l)

  pub policy_to : AreEntered net parts part cs → IsPolicy net parts part (chosen r)
  policy_to e t m =
      let s = stands_at parts part cs h t m in
      let c : Choice = get_or cs s.at none_chosen in
      let place : chosen r t ≡ c.place = ap chosen_place s.found in
      rw place (subst (λ x. Enters net parts part x c.place) s.of (e s.at none_chosen s.within))

  pub policy_from : IsPolicy net parts part (chosen r) → AreEntered net parts part cs
  policy_from p i d l =
      let c : Choice = get_or cs i d in
      subst (Enters net parts part c.transition.index) (place_at i d l) (p c.transition.index (only_members parts part cs h i d l))

  -- the potential of a choice is that of a sum
  module _ (ratio : Fraction) (root : ℕ) where
    told_root : (c : Choice) → c.transition.index ≡ root → sum_told net ratio cs root c ≡ pos 0
    told_root c e = let b : eqb c.transition.index root ≡ true = eq-eqb c.transition.index root e in rw b refl

    told_other : (c : Choice) → c.transition.index ≢ root → sum_told net ratio cs root c ≡ (reduced_time net ratio.time ratio.tokens c.place +ℤ potential r (from_of net c.place))
    told_other c n = let b : eqb c.transition.index root ≡ false = ne_eqb c.transition.index root n in rw b refl

    pub sums_to : IsMember parts part root → AreSumsTold net ratio cs root → AreSums net parts part ratio.time ratio.tokens (chosen r) root (potential r)
    sums_to m told = record {
      start =
          let s = stands_at parts part cs h root m in
          let c : Choice = get_or cs s.at none_chosen in
          ap value_in s.found ∙ (told s.at none_chosen s.within ∙ told_root c s.of);
      others = λ t i ne.
          let s = stands_at parts part cs h t i in
          let c : Choice = get_or cs s.at none_chosen in
          let place : chosen r t ≡ c.place = ap chosen_place s.found in
          let value : potential r t ≡ c.value = ap value_in s.found in
          let apart : c.transition.index ≢ root = λ e. ne (sym s.of ∙ e) in
          rw place (value ∙ (told s.at none_chosen s.within ∙ told_other c apart));
    }

    pub sums_from : AreSums net parts part ratio.time ratio.tokens (chosen r) root (potential r) → AreSumsTold net ratio cs root
    sums_from sums i d l =
        let c : Choice = get_or cs i d in
        let t : ℕ = c.transition.index in
        ⊎_elim
        (λ (e : t ≡ root). sym (value_at i d l) ∙ (ap (potential r) e ∙ (sums.start ∙ sym (told_root c e))))
        (λ (ne : t ≢ root).
        let m = only_members parts part cs h i d l in
        let other : potential r t ≡ (reduced_time net ratio.time ratio.tokens c.place +ℤ potential r (from_of net c.place)) =
        subst (λ p. potential r t ≡ (reduced_time net ratio.time ratio.tokens p +ℤ potential r (from_of net p))) (place_at i d l) (sums.others t m ne) in
        sym (value_at i d l) ∙ (other ∙ sym (told_other c ne)))
        (cases_eq t root)

all_from_first : (net : NetLists) (c : List PlaceId) → BeginsLowest net c → All (λ p. first_transition_of net c ≤ from_of net p) c
all_from_first net [] h = λ i d l. absurd (omega arith)
all_from_first net (p ∷ ps) h = All-cons (λ q. from_of net p ≤ from_of net q) p ps (omega arith) h

abbrev Fits : NetLists → List ℕ → ℕ → Round → Type 0
Fits net parts part r = FitsRound net parts part r.ratio r.choices.items r.circuit.places.items

pub fits_is_round : (net : NetLists) (parts : List ℕ) (part : ℕ) (r : Round) → IsLowestTerms r.ratio → Fits net parts part r → IsRound net parts part r
fits_is_round net parts part r terms f =
    let c : List PlaceId = r.circuit.places.items in
    let own = f.fits.circuit.told.own in
    let root : IsMember parts part (first_transition_of net c) = (own 0 (record { index = 0 }) f.fits.circuit.circuit.not_empty).0.from_member in
    record {
      members = f.choices.members;
      policy = policy_to net parts part r f.choices.members f.choices.entered;
      circuit = record { circuit = f.fits.circuit.circuit; inside = λ i d l. (own i d l).0; own = λ i d l. (own i d l).1 };
      lowest_first = begins_lowest net c f.fits.circuit.told.lowest_first;
      ratio = record { same = f.fits.circuit.told.same; terms = terms };
      sums = sums_to net parts part r f.choices.members r.ratio (first_transition_of net c) root f.fits.sums;
    }

pub round_fits : (net : NetLists) (parts : List ℕ) (part : ℕ) (r : Round) → IsRound net parts part r → Fits net parts part r
round_fits net parts part r h =
    let c : List PlaceId = r.circuit.places.items in
    record {
      choices = record { members = h.members; entered = policy_from net parts part r h.members h.policy };
      fits = record {
        circuit = record {
          circuit = h.circuit.circuit;
          told = record {
            lowest_first = all_from_first net c h.lowest_first;
            own = λ i d l. (h.circuit.inside i d l, h.circuit.own i d l);
            same = h.ratio.same;
          };
        };
        sums = sums_from net parts part r h.members r.ratio (first_transition_of net c) h.sums;
      };
    }
