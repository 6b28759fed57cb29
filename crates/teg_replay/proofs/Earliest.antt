-- The earliest date of a firing, from the dates of its tokens, the firing before it and its release.
use Rattle.std.proofs.Common.{ℕ, ◌<◌, ◌≡◌, List, Some, max, length, get_or, refl, subst, arith}
use Rattle.std.specs.Prelude.{All}
use Rattle.std.proofs.lemmas.List.{get_or_default}
use Rattle.teg_net.specs.Nets.{NetLists}
use Rattle.teg_net.specs.Circuits.{no_place}
use Rattle.run_laws.specs.teg_model.Datings.{extended_places}
use Rattle.run_laws.proofs.teg_model_proofs.OfNet.{all_extended, extended_has, implicit_is}
use Rattle.run_laws.specs.declared.fired.Fired.{Fired}
use Rattle.run_laws.specs.Runs.{dates_of_transition, next_number, token_date, IsThereBy, HasTokensBy}
use Rattle.run_laws.specs.Earliest.{IsEarliest, last_listed_date}
use Rattle.run_laws.proofs.Dates.{later_there}
use Rattle.run_laws.proofs.Earliest.{implicit_date}
use Rattle.teg_replay.specs.Waits.{IsLatestToken, IsLatestRelease}

places_of : (net : NetLists) (run : List Fired) (t k date : ℕ) → All (λ p. p.to.index ≡ t → IsThereBy date (token_date run p k)) (extended_places net) → HasTokensBy net run t k date
places_of net run t k date all i d l =
    let at = extended_has net (λ p. p.to.index ≡ t → IsThereBy date (token_date run p k)) (λ j m. all j no_place m) i l in
    subst (λ p. p.to.index ≡ t → IsThereBy date (token_date run p k)) (get_or_default net.places i no_place d l) at

pub earliest_is : (net : NetLists) (run : List Fired) (t tokens release : ℕ) → t < length net.transitions
    → IsLatestToken net run t (next_number run t) tokens → IsLatestRelease net t (next_number run t) release
    → IsEarliest net run t (next_number run t) (max (max tokens release) (last_listed_date (dates_of_transition run t)))
earliest_is net run t tokens release l h g =
    let k : ℕ = next_number run t in
    let before : ℕ = last_listed_date (dates_of_transition run t) in
    let date : ℕ = max (max tokens release) before in
    record {
      enough = record {
        tokens = all_extended net (λ p. p.to.index ≡ t → IsThereBy date (token_date run p k))
            (λ i d m e. later_there tokens date (token_date run (get_or net.places i d) k) (omega arith) (h.enough i d m e))
            (λ u e. rw e (rw (implicit_date run t) (omega arith)));
        released = λ i. later_there release date _ (omega arith) (g.enough i);
      };
      first = λ other all.
          let own = implicit_is net t l in
          let there = rw own.2 at (all.tokens own.0 no_place own.1) in
          let last : IsThereBy other (Some before) = rw (implicit_date run t) at (there refl) in
          let low = h.first other (places_of net run t k other all.tokens) in
          let low2 = g.first other all.released in
          omega (arith, last, low, low2);
    }
