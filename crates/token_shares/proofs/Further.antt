-- Nets with further tokens in some places.
use Rattle.std.proofs.Common.{ℕ, ◌+◌, ◌*◌, ◌<◌, ◌≤◌, ◌≡◌, ◌≢◌, List, [], ◌∷◌, true, false, eqb, length, map, refl, sym, ap, subst, ◌∙◌, arith, ⊎_elim}
use Rattle.std.specs.Prelude.{All}
use Rattle.std.proofs.lemmas.Bool.{cases_eq, eq-eqb, ne_eqb}
use Rattle.std.proofs.lemmas.List.{length-set}
use Rattle.std.proofs.lemmas.List.Elements.{All-tail, All-set}
use Rattle.std.proofs.lemmas.List.Sums.{sum_by-cons}
use Rattle.teg_net.specs.declared.entries.Place.{Place}
use Rattle.teg_net.specs.declared.entries.PlaceId.{PlaceId}
use Rattle.teg_net.specs.Changes.{place_with_tokens, with_tokens}
use Rattle.teg_net.specs.Circuits.{no_place, place_at, IsCircuit, time_of, tokens_of}
use Rattle.teg_net.specs.Nets.{NetLists}
use Rattle.teg_net.proofs.Changing.{HaveSameEnds, circuit_along}
use Rattle.teg_net.proofs.Reading.{same_id}
use Rattle.teg_check.specs.Ranks.{IsRanking}
use Rattle.teg_check.proofs.Changing.{ranking_with_more}
use Rattle.token_shares.specs.BareNets.{HasNoDates}
use Rattle.token_shares.specs.KeptCuts.{one_at, times_passed, further_by}
use Rattle.token_shares.specs.TokenShares.{with_further}
use Rattle.token_shares.proofs.Places.{kept_at, new_at, other_at, sum_shared}

-- the net after the first place of a list
abbrev pub after_one : NetLists → PlaceId → ℕ → NetLists
after_one net p d = with_tokens net p ((place_at net p).tokens + d)

-- what does not hang on tokens stays at each place
pub kept_further :
    {X : Type 0} (part : Place → X) → ((tokens : ℕ) (p : Place) → part (place_with_tokens tokens p) ≡ part p)
    → (net : NetLists) (places : List PlaceId) (ds : List ℕ) (q : PlaceId) → part (place_at (with_further net places ds) q) ≡ part (place_at net q)
kept_further part same net [] ds q = refl
kept_further part same net (p ∷ places) [] q = refl
kept_further part same net (p ∷ places) (d ∷ ds) q =
    kept_further part same (after_one net p d) places ds q
    ∙ kept_at part net p (place_with_tokens ((place_at net p).tokens + d) (place_at net p)) (same ((place_at net p).tokens + d) (place_at net p)) q

pub count_further : (net : NetLists) (places : List PlaceId) (ds : List ℕ) → length (with_further net places ds).places ≡ length net.places
count_further net [] ds = refl
count_further net (p ∷ places) [] = refl
count_further net (p ∷ places) (d ∷ ds) =
    count_further (after_one net p d) places ds ∙ length-set net.places p.index (place_with_tokens ((place_at net p).tokens + d) (place_at net p))

-- ---- circuits

forth : (net : NetLists) (places : List PlaceId) (ds : List ℕ) → HaveSameEnds (with_further net places ds) net
forth net places ds = record {
  count = count_further net places ds;
  from = kept_further (λ p. p.from) (λ t p. refl) net places ds;
  to = kept_further (λ p. p.to) (λ t p. refl) net places ds;
}

pub circuit_forth : (net : NetLists) (places : List PlaceId) (ds : List ℕ) (ps : List PlaceId) → IsCircuit (with_further net places ds) ps → IsCircuit net ps
circuit_forth net places ds ps c = circuit_along (with_further net places ds) net (forth net places ds) ps c

pub circuit_back : (net : NetLists) (places : List PlaceId) (ds : List ℕ) (ps : List PlaceId) → IsCircuit net ps → IsCircuit (with_further net places ds) ps
circuit_back net places ds ps c =
    let there = forth net places ds in
    circuit_along net (with_further net places ds) (record { count = sym there.count; from = λ p. sym (there.from p); to = λ p. sym (there.to p) }) ps c

pub time_further : (net : NetLists) (places : List PlaceId) (ds : List ℕ) (ps : List PlaceId) → time_of (with_further net places ds) ps ≡ time_of net ps
time_further net places ds ps =
    sum_shared (λ q. (place_at (with_further net places ds) q).hold) (λ q. (place_at net q).hold) ps
    (λ i d l. kept_further (λ p. p.hold) (λ t p. refl) net places ds _)

pub one_here : (p q : PlaceId) → q.index ≡ p.index → one_at p q ≡ 1
one_here p q e = let b : eqb q.index p.index ≡ true = eq-eqb q.index p.index e in rw b refl

pub one_apart : (p q : PlaceId) → q.index ≢ p.index → one_at p q ≡ 0
one_apart p q ne = let b : eqb q.index p.index ≡ false = ne_eqb q.index p.index ne in rw b refl

-- the tokens of a path with further tokens in one place
tokens_one : (net : NetLists) (p : PlaceId) (d : ℕ) (ps : List PlaceId) → p.index < length net.places
    → tokens_of (after_one net p d) ps ≡ tokens_of net ps + times_passed p ps * d
tokens_one net p d [] l = omega arith
tokens_one net p d (q ∷ ps) l =
    let new : Place = place_with_tokens ((place_at net p).tokens + d) (place_at net p) in
    let one = sum_by-cons (λ x. (place_at (after_one net p d) x).tokens) q ps in
    let two = sum_by-cons (λ x. (place_at net x).tokens) q ps in
    let rest = tokens_one net p d ps l in
    ⊎_elim
    (λ (e : q.index ≡ p.index).
    let here : (place_at (after_one net p d) q).tokens ≡ (place_at net q).tokens + d = ap (λ (z : Place). z.tokens) (new_at net p q new l e)
    ∙ ap (λ (z : PlaceId). (place_at net z).tokens + d) (sym (same_id q p e)) in
    let passed : times_passed p (q ∷ ps) ≡ 1 + times_passed p ps = sum_by-cons (one_at p) q ps ∙ ap (λ (n : ℕ). n + times_passed p ps) (one_here p q e) in
    let wide : times_passed p (q ∷ ps) * d ≡ d + times_passed p ps * d = rw passed (grind arith) in
    omega arith)
    (λ (ne : q.index ≢ p.index).
    let here : (place_at (after_one net p d) q).tokens ≡ (place_at net q).tokens = ap (λ (z : Place). z.tokens) (other_at net p q new ne) in
    let passed : times_passed p (q ∷ ps) ≡ 0 + times_passed p ps = sum_by-cons (one_at p) q ps ∙ ap (λ (n : ℕ). n + times_passed p ps) (one_apart p q ne) in
    let wide : times_passed p (q ∷ ps) * d ≡ times_passed p ps * d = rw passed (grind arith) in
    omega arith)
    (cases_eq q.index p.index)

abbrev InRange : NetLists → List PlaceId → Type 0
InRange net places = All (λ p. p.index < length net.places) places

range_after : (net : NetLists) (p : PlaceId) (d : ℕ) (places : List PlaceId) → InRange net (p ∷ places) → InRange (after_one net p d) places
range_after net p d places r =
    subst (λ (n : ℕ). All (λ q. q.index < n) places) (sym (length-set net.places p.index (place_with_tokens ((place_at net p).tokens + d) (place_at net p))))
    (All-tail (λ q. q.index < length net.places) p places r)

-- the tokens of a path with the further ones
pub tokens_further : (net : NetLists) (places : List PlaceId) (ds : List ℕ) (ps : List PlaceId) → InRange net places
    → tokens_of (with_further net places ds) ps ≡ tokens_of net ps + further_by (map (λ p. times_passed p ps) places) ds
tokens_further net [] ds ps r = omega arith
tokens_further net (p ∷ places) [] ps r = omega arith
tokens_further net (p ∷ places) (d ∷ ds) ps r =
    let rest = tokens_further (after_one net p d) places ds ps (range_after net p d places r) in
    let one = tokens_one net p d ps (r 0 p (omega arith)) in
    omega arith

-- ---- places

-- no place has fewer tokens
pub grows : (net : NetLists) (places : List PlaceId) (ds : List ℕ) (q : PlaceId) → InRange net places → (place_at net q).tokens ≤ (place_at (with_further net places ds) q).tokens
grows net [] ds q r = omega arith
grows net (p ∷ places) [] q r = omega arith
grows net (p ∷ places) (d ∷ ds) q r =
    let rest = grows (after_one net p d) places ds q (range_after net p d places r) in
    let new : Place = place_with_tokens ((place_at net p).tokens + d) (place_at net p) in
    ⊎_elim
    (λ (e : q.index ≡ p.index).
    let here : (place_at (after_one net p d) q).tokens ≡ (place_at net q).tokens + d = ap (λ (z : Place). z.tokens) (new_at net p q new (r 0 p (omega arith)) e)
    ∙ ap (λ (z : PlaceId). (place_at net z).tokens + d) (sym (same_id q p e)) in
    omega arith)
    (λ (ne : q.index ≢ p.index).
    let here : (place_at (after_one net p d) q).tokens ≡ (place_at net q).tokens = ap (λ (z : Place). z.tokens) (other_at net p q new ne) in
    omega arith)
    (cases_eq q.index p.index)

-- ranks stand for the net still
pub ranking_further : (net : NetLists) (ranks : List ℕ) (places : List PlaceId) (ds : List ℕ) → InRange net places → IsRanking net ranks → IsRanking (with_further net places ds) ranks
ranking_further net ranks [] ds r h = h
ranking_further net ranks (p ∷ places) [] r h = h
ranking_further net ranks (p ∷ places) (d ∷ ds) r h =
    ranking_further (after_one net p d) ranks places ds (range_after net p d places r)
    (ranking_with_more net ranks p ((place_at net p).tokens + d) (r 0 p (omega arith)) (omega arith) h)

-- a net without dates stays one
pub dates_after : (net : NetLists) (p : PlaceId) (d : ℕ) → p.index < length net.places → HasNoDates net → HasNoDates (after_one net p d)
dates_after net p d l h = All-set (λ (z : Place). z.ready ≡ []) net.places p.index (place_with_tokens ((place_at net p).tokens + d) (place_at net p)) (h p.index no_place l) h
