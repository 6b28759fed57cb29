-- What a circuit that is kept says of numbers of further tokens.
use Rattle.std.proofs.Common.{ℕ, ◌+◌, ◌*◌, ◌<◌, ◌≤◌, ◌≡◌, List, [], ◌∷◌, ◌++◌, length, map, get_or, take, sym, ap, ◌∙◌, arith}
use Rattle.std.specs.Prelude.{All}
use Rattle.std.proofs.lemmas.List.{map-append, take_more}
use Rattle.teg_net.specs.declared.entries.PlaceId.{PlaceId}
use Rattle.teg_net.specs.Circuits.{IsCircuit, time_of, tokens_of}
use Rattle.teg_net.specs.Nets.{NetLists, IsNet}
use Rattle.teg_net.specs.Ratios.{Fraction}
use Rattle.teg_certificates.proofs.Short.{circuit_short, circuit_sums}
use Rattle.token_shares.specs.declared.cuts.Cut.{Cut}
use Rattle.token_shares.specs.KeptCuts.{IsCut, further_by, times_passed}
use Rattle.token_shares.specs.TokenShares.{AreEnough, with_further}
use Rattle.token_shares.proofs.Further.{circuit_back, time_further, tokens_further}

-- numbers that leave the circuit above the target are not enough
pub refuted : (net : NetLists) (r : Fraction) (places : List PlaceId) (ds : List ℕ) (c : Cut) → All (λ p. p.index < length net.places) places → IsCut net places c
    → r.time * (c.tokens + further_by c.passes.items ds) < c.time * r.tokens → AreEnough net r places ds → ⊥
refuted net r places ds c range cut above enough =
    let ps : List PlaceId = cut.places_on in
    let low = enough.kept ps (circuit_back net places ds ps cut.circuit) in
    let time = time_further net places ds ps in
    let tokens = tokens_further net places ds ps range in
    let further : further_by c.passes.items ds ≡ further_by (map (λ p. times_passed p ps) places) ds = ap (λ (ns : List ℕ). further_by ns ds) cut.passes in
    let one : time_of (with_further net places ds) ps * r.tokens ≡ c.time * r.tokens = rw (time, cut.time) (grind arith) in
    let two : r.time * tokens_of (with_further net places ds) ps ≡ r.time * (c.tokens + further_by c.passes.items ds) = rw (tokens, cut.tokens, further) (grind arith) in
    omega arith

-- one place more, with how often it is passed
pub passed_more : (f : PlaceId → ℕ) (places : List PlaceId) (xs : List ℕ) (i : ℕ) (d : PlaceId) (n : ℕ) → i < length places → xs ≡ map f (take i places) → n ≡ f (get_or places i d)
    → xs ++ n ∷ [] ≡ map f (take (i + 1) places)
passed_more f places xs i d n l h e =
    let one : take (i + 1) places ≡ take i places ++ get_or places i d ∷ [] = take_more places i d l in
    ap (λ (ys : List ℕ). ys ++ n ∷ []) h ∙ (ap (λ (m : ℕ). map f (take i places) ++ m ∷ []) e ∙ (sym (map-append f (take i places) (get_or places i d ∷ [])) ∙ ap (map f) (sym one)))

-- a circuit with its time, its tokens and how often it passes each place
pub cut_is : (net : NetLists) (places ps : List PlaceId) (c : Cut) → IsNet net → IsCircuit net ps → c.time ≡ time_of net ps → c.tokens ≡ tokens_of net ps
    → c.passes.items ≡ map (λ p. times_passed p ps) places → All (λ n. n ≤ length ps) c.passes.items → IsCut net places c
cut_is net places ps c ok circuit time tokens passes few =
    let sums = circuit_sums net ok ps circuit in
    let short = circuit_short net ok ps circuit in
    let most = ok.few_transitions in
    record {
      places_on = ps;
      circuit = circuit;
      time = time;
      tokens = tokens;
      passes = passes;
      short = record {
        time = omega (arith, sums.0);
        tokens = omega (arith, sums.1);
        passes = λ i d l. let own = few i d l in omega arith;
      };
    }
