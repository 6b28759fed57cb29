-- What happened in a legal run happened in time.
use Rattle.std.proofs.Common.{ℕ, pos, ◌+◌, ◌-◌, ◌<◌, ◌≤◌, ◌≡◌, ◌≢◌, List, [], ◌∷◌, ◌++◌, Option, Some, None, true, false, ltb, get_or, refl, ◌∙◌, arith, ⊎_elim}
use Rattle.std.specs.Prelude.{All, option_map}
use Rattle.std.proofs.lemmas.Bool.{cases_Bool, cases_eq, cases_lt}
use Rattle.std.proofs.lemmas.Int.{ints}
use Rattle.teg_model.specs.dioid.declared.dates.Date.TheVariants.{At}
use Rattle.teg_model.specs.dioid.Dates.{IsAtMostDate}
use Rattle.teg_net.specs.declared.entries.Place.{Place}
use Rattle.teg_net.specs.Nets.{NetLists}
use Rattle.teg_model.specs.Datings.{as_date, extended_places}
use Rattle.run_laws.specs.declared.fired.Fired.{Fired}
use Rattle.run_laws.specs.Runs.{dates_of_transition, firing_date, next_number, token_date, IsThereBy, IsLegalRun}
use Rattle.run_laws.proofs.Counting.{token_made}
use Rattle.run_laws.proofs.Dates.{dates_of_own, dates_of_other, get_there}
use Rattle.run_laws.proofs.Least.{get_push_left, firing_push, legal_open}
use Rattle.run_laws.proofs.Prefixes.{along, legal_begins, legal_push}
use Rattle.state_laws.specs.Rests.{ArePaid, HappenedInTime}
use Rattle.state_laws.specs.NetsLeft.{count_in, date_in, system_from}
use Rattle.state_laws.specs.StateLaws.{LegalRunsAreInTime}
use Rattle.state_laws.proofs.LeftTokens.{own_of, firing_is, token_is}

-- a firing keeps its date where one more happens
firing_kept : (run : List Fired) (f : Fired) (t k date : ℕ) → firing_date run t k ≡ Some date → firing_date (run ++ f ∷ []) t k ≡ Some date
firing_kept run f t k date e =
    ⊎_elim
    (λ (q : f.transition.index ≡ t). rw (dates_of_own run f t q) (get_push_left (dates_of_transition run t) f.date date (k - 1) e))
    (λ (q : f.transition.index ≢ t). rw (dates_of_other run f t q) e)
    (cases_eq f.transition.index t)

there_kept : (run : List Fired) (f : Fired) (t k h date : ℕ) (o : Option ℕ) → firing_date run t k ≡ o → IsThereBy date (option_map (λ d. d + h) o)
    → IsThereBy date (option_map (λ d. d + h) (firing_date (run ++ f ∷ []) t k))
there_kept run f t k h date None e there = absurd there
there_kept run f t k h date (Some d) e there = rw (firing_kept run f t k d e) there

token_kept : (run : List Fired) (f : Fired) (p : Place) (k date : ℕ) → IsThereBy date (token_date run p k) → IsThereBy date (token_date (run ++ f ∷ []) p k)
token_kept run f p k date there =
    ⊎_elim
    (λ (q : ltb p.tokens k ≡ true). rw q (there_kept run f p.from.index (k - p.tokens) p.hold date (firing_date run p.from.index (k - p.tokens)) refl (rw q at there)))
    (λ (q : ltb p.tokens k ≡ false). rw q (rw q at there))
    (cases_Bool (ltb p.tokens k))

-- each firing of the run had its tokens by its date
abbrev HaveTokens : NetLists → List Fired → Type 0
HaveTokens net run = (t k date : ℕ) → 1 ≤ k → firing_date run t k ≡ Some date → All (λ p. p.to.index ≡ t → IsThereBy date (token_date run p k)) (extended_places net)

have_tokens : (net : NetLists) (run : List Fired) → IsLegalRun net run → HaveTokens net run
have_tokens net run legal =
    (along net (λ r. IsLegalRun net r × HaveTokens net r)
    (legal_begins net, λ t k date o e. let none = (get_there [] (k - 1) date e).0 in absurd (omega (arith, none)))
    (λ before f p g. (
      legal_push net before f p.0 g,
      λ t k date o e i d l to. token_kept before f (get_or (extended_places net) i d) k date
          (⊎_elim
          (λ (q : firing_date before t k ≡ Some date). p.1 t k date o q i d l to)
          (λ (q : (t ≡ f.transition.index) × (k ≡ next_number before f.transition.index) × (date ≡ f.date)).
          rw (q.1, q.2) ((legal_open net before f p.0 g).tokens i d l (to ∙ q.0)))
          (firing_push before f t k date o e)),
    ))
    run legal).1

there_date : (date : ℕ) (o : Option ℕ) → IsThereBy date o → IsAtMostDate (as_date o) (At (pos date))
there_date date None h = absurd h
there_date date (Some d) h = omega (arith, ints, h)

in_time : (net : NetLists) (run : List Fired) (now : ℕ) → HaveTokens net run → HappenedInTime (system_from net now) (count_in run) (date_in run)
in_time net run now have k o i d l few =
    let p : Place = get_or (extended_places net) i d in
    let date : ℕ = get_or (dates_of_transition run p.to.index) (k - 1) 0 in
    let is = firing_is run p.to.index k o few in
    rw (token_is run p k, is) (there_date date (token_date run p k) (have p.to.index k date o is i d l refl))

all_paid : (net : NetLists) (run : List Fired) → HaveTokens net run → ArePaid (count_in run) (extended_places net)
all_paid net run have i d l =
    let p : Place = get_or (extended_places net) i d in
    let n : ℕ = count_in run p.to.index in
    ⊎_elim
    (λ (q : 0 < n).
    let date : ℕ = get_or (dates_of_transition run p.to.index) (n - 1) 0 in
    token_made run p n date (omega (arith, q)) (have p.to.index n date (omega (arith, q)) (firing_is run p.to.index n (omega (arith, q)) (omega arith)) i d l refl))
    (λ (q : n ≤ 0). omega (arith, q))
    (cases_lt 0 n)

pub legal_in_time : LegalRunsAreInTime
legal_in_time net run now legal =
    let have = have_tokens net run legal in
    record { paid = own_of net (λ p. count_in run p.to.index ≤ p.tokens + count_in run p.from.index) (all_paid net run have); in_time = in_time net run now have }
