-- The tokens of places along a legal run.
use Rattle.std.proofs.Common.{ℕ, ◌+◌, ◌-◌, ◌^◌, ◌<◌, ◌≤◌, ◌≡◌, ◌≢◌, List, [], ◌∷◌, ◌++◌, Option, Some, None, true, false, cond, eqb, ltb, length, get_or, refl, sym, ap, ◌∙◌, arith, ⊎_elim}
use Rattle.std.specs.Prelude.{All, sum_by, count_by, ◌==◌, slice_get, option_map}
use Rattle.std.proofs.lemmas.Bool.{cases_eq, cases_Bool}
use Rattle.std.proofs.lemmas.Bool.Decides.{nat_tests}
use Rattle.std.proofs.lemmas.List.{length_push}
use Rattle.std.proofs.lemmas.List.Elements.{All-tail}
use Rattle.std.proofs.lemmas.List.Sums.{sum_by-cons, sum_by-le}
use Rattle.teg_net.specs.declared.entries.Place.{Place}
use Rattle.teg_net.specs.Nets.{NetLists, IsNet}
use Rattle.run_laws.specs.declared.fired.Fired.{Fired}
use Rattle.run_laws.specs.Runs.{dates_of_transition, next_number, firing_date, token_date, IsThereBy, IsLegalRun}
use Rattle.run_laws.specs.Earliest.{tokens_in, tokens_after}
use Rattle.run_laws.proofs.Dates.{dates_of_own, dates_of_other, length_dates, get_there}
use Rattle.run_laws.proofs.Prefixes.{along}

-- how often the firing is one of transition t
pub once : Fired → ℕ → ℕ
once f t = cond (eqb f.transition.index t) 1 0

once_yes : (f : Fired) (t : ℕ) → eqb f.transition.index t ≡ true → once f t ≡ 1
unfolding once
once_yes f t e = rw e refl

once_no : (f : Fired) (t : ℕ) → eqb f.transition.index t ≡ false → once f t ≡ 0
unfolding once
once_no f t e = rw e refl

pub count_push : (run : List Fired) (f : Fired) (t : ℕ) → length (dates_of_transition (run ++ f ∷ []) t) ≡ length (dates_of_transition run t) + once f t
unfolding once
count_push run f t =
    ⊎_elim
    (λ (e : f.transition.index ≡ t).
    let test : eqb f.transition.index t ≡ true = grind (arith, nat_tests) in
    rw (test, dates_of_own run f t e) (length_push (dates_of_transition run t) f.date))
    (λ (e : f.transition.index ≢ t).
    let test : eqb f.transition.index t ≡ false = grind (arith, nat_tests) in
    rw (test, dates_of_other run f t e) (omega arith))
    (cases_eq f.transition.index t)

there_in : (xs : List ℕ) (i h date : ℕ) (o : Option ℕ) → slice_get xs i ≡ o → IsThereBy date (option_map (λ d. d + h) o) → i < length xs
there_in xs i h date None e l = absurd l
there_in xs i h date (Some x) e l = (get_there xs i x e).0

-- a token that is there was made
pub token_made : (run : List Fired) (p : Place) (k date : ℕ) → 1 ≤ k → IsThereBy date (token_date run p k) → k ≤ p.tokens + length (dates_of_transition run p.from.index)
token_made run p k date o h =
    ⊎_elim
    (λ (q : ltb p.tokens k ≡ true).
    let l : p.tokens < k = grind (arith, nat_tests) in
    let made = there_in (dates_of_transition run p.from.index) (k - p.tokens - 1) p.hold date (firing_date run p.from.index (k - p.tokens)) refl (rw q at h) in
    omega (arith, made, l))
    (λ (q : ltb p.tokens k ≡ false). let l : k ≤ p.tokens = grind (arith, nat_tests) in omega arith)
    (cases_Bool (ltb p.tokens k))

-- no place has given more tokens than it had and got
pub IsPaid : List Fired → Place → Type 0
IsPaid run p = length (dates_of_transition run p.to.index) ≤ p.tokens + length (dates_of_transition run p.from.index)

pub paid : (net : NetLists) (run : List Fired) → IsLegalRun net run → All (IsPaid run) net.places
unfolding IsPaid
paid net run legal =
    along net (λ r. All (IsPaid r) net.places) (λ i d l. omega arith)
    (λ before f h g i d l.
    let p : Place = get_or net.places i d in
    let to = count_push before f p.to.index in
    let from = count_push before f p.from.index in
    let was = h i d l in
    ⊎_elim
    (λ (e : p.to.index ≡ f.transition.index).
    let there = g.tokens i d l e in
    let made = token_made before p (next_number before f.transition.index) f.date (omega arith) there in
    let test : eqb f.transition.index p.to.index ≡ true = grind (arith, nat_tests) in
    let one : once f p.to.index ≡ 1 = once_yes f p.to.index test in
    let same = ap (λ t. length (dates_of_transition before t)) e in
    omega (arith, to, from, made, one, same))
    (λ (e : p.to.index ≢ f.transition.index).
    let test : eqb f.transition.index p.to.index ≡ false = grind (arith, nat_tests) in
    let none : once f p.to.index ≡ 0 = once_no f p.to.index test in
    omega (arith, to, from, was, none))
    (cases_eq p.to.index f.transition.index))
    run legal

eqb_turned : (s t : ℕ) → eqb s t ≡ eqb t s
eqb_turned s t =
    ⊎_elim
    (λ (e : s ≡ t). rw e refl)
    (λ (e : s ≢ t).
    let a : eqb s t ≡ false = grind (arith, nat_tests) in
    let b : eqb t s ≡ false = grind (arith, nat_tests) in
    a ∙ sym b)
    (cases_eq s t)

-- one more firing takes a token from each place into its transition, and brings one to each that leaves it
moved : (run : List Fired) (f : Fired) (ps : List Place) → All (IsPaid run) ps → All (IsPaid (run ++ f ∷ [])) ps
    → sum_by (tokens_in (run ++ f ∷ [])) ps + count_by (λ p. p.to.index == f.transition.index) ps ≡ sum_by (tokens_in run) ps + count_by (λ p. p.from.index == f.transition.index) ps
unfolding IsPaid once
moved run f [] h g = refl
moved run f (p ∷ ps) h g =
    let more = moved run f ps (All-tail (IsPaid run) p ps h) (All-tail (IsPaid (run ++ f ∷ [])) p ps g) in
    let a = sum_by-cons (tokens_in (run ++ f ∷ [])) p ps in
    let b = sum_by-cons (tokens_in run) p ps in
    let c = sum_by-cons (λ q. cond (q.to.index == f.transition.index) 1 0) p ps in
    let d = sum_by-cons (λ q. cond (q.from.index == f.transition.index) 1 0) p ps in
    let before = h 0 p (omega arith) in
    let after = g 0 p (omega arith) in
    let to = count_push run f p.to.index in
    let from = count_push run f p.from.index in
    let to_same : once f p.to.index ≡ cond (p.to.index == f.transition.index) 1 0 = ap (λ x. cond x 1 0) (eqb_turned f.transition.index p.to.index) in
    let from_same : once f p.from.index ≡ cond (p.from.index == f.transition.index) 1 0 = ap (λ x. cond x 1 0) (eqb_turned f.transition.index p.from.index) in
    omega (arith, more, a, b, c, d, before, after, to, from, to_same, from_same)

pub tokens_moved : (net : NetLists) (run : List Fired) (f : Fired) → IsLegalRun net run → IsLegalRun net (run ++ f ∷ [])
    → tokens_after net (run ++ f ∷ []) + count_by (λ p. p.to.index == f.transition.index) net.places ≡ tokens_after net run + count_by (λ p. p.from.index == f.transition.index) net.places
tokens_moved net run f h g = moved run f net.places (paid net run h) (paid net (run ++ f ∷ []) g)

-- the tokens are few
pub tokens_few : (net : NetLists) (run : List Fired) → IsNet net → length run < 2 ^ 40 → tokens_after net run ≤ 2 ^ 60
tokens_few net run ok few =
    let each : All (λ p. tokens_in run p ≤ 2 ^ 41) net.places =
    λ i d l.
    let own = (ok.each_place i d l).tokens_in in
    let low = length_dates run (get_or net.places i d).from.index in
    omega (arith, own, low, few) in
    let sum = sum_by-le (tokens_in run) (2 ^ 41) net.places each in
    omega (arith, sum, ok.few_places)
