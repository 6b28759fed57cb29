-- What a net has, has a bound of the net's own: its holds, its tokens and its dates.
use Rattle.std.proofs.Common.{ℕ, ◌+◌, ◌≤◌, ◌≡◌, List, [], ◌∷◌, get_or, refl, arith}
use Rattle.std.specs.Prelude.{All}
use Rattle.std.proofs.lemmas.List.Elements.{All-nil, All-cons}
use Rattle.teg_net.specs.declared.entries.InputList.{InputList}
use Rattle.teg_net.specs.declared.entries.Place.{Place}
use Rattle.teg_net.specs.Nets.{NetLists}

-- some number that no element exceeds
some_most : {A : Type 0} (f : A → ℕ) (xs : List A) → (most : ℕ) × All (λ x. f x ≤ most) xs
some_most f [] = (0, All-nil (λ x. f x ≤ 0))
some_most f (x ∷ xs) =
    let rest = some_most f xs in
    let here : f x ≤ f x + rest.0 = omega arith in
    (f x + rest.0, All-cons (λ y. f y ≤ f x + rest.0) x xs here (λ i d l. let low : f (get_or xs i d) ≤ rest.0 = rest.1 i d l in omega arith))

most_of : List ℕ → ℕ
most_of ds = (some_most (λ (d : ℕ). d) ds).0

in_most : (ds : List ℕ) → All (λ d. d ≤ most_of ds) ds
unfolding most_of
in_most ds = (some_most (λ (d : ℕ). d) ds).1

-- some number that no number of the lists exceeds
some_most_in : {A : Type 0} (f : A → List ℕ) (xs : List A) → (most : ℕ) × All (λ x. All (λ d. d ≤ most) (f x)) xs
some_most_in f xs =
    let all = some_most (λ x. most_of (f x)) xs in (
      all.0,
      λ i d l j e m.
          let low : get_or (f (get_or xs i d)) j e ≤ most_of (f (get_or xs i d)) = in_most (f (get_or xs i d)) j e m in
          let up : most_of (f (get_or xs i d)) ≤ all.0 = all.1 i d l in
          omega (arith, low, up),
    )

-- no place has a longer hold
pub hold_bound : NetLists → ℕ
hold_bound net = (some_most (λ (p : Place). p.hold) net.places).0

pub holds_bounded : (net : NetLists) → All (λ p. p.hold ≤ hold_bound net) net.places
unfolding hold_bound
holds_bounded net = (some_most (λ (p : Place). p.hold) net.places).1

-- or more tokens
pub token_bound : NetLists → ℕ
token_bound net = (some_most (λ (p : Place). p.tokens) net.places).0

pub tokens_bounded : (net : NetLists) → All (λ p. p.tokens ≤ token_bound net) net.places
unfolding token_bound
tokens_bounded net = (some_most (λ (p : Place). p.tokens) net.places).1

-- no listed date is later, and no initial token is ready later
pub date_bound : NetLists → ℕ
date_bound net = (some_most_in (λ (l : InputList). l.dates) net.inputs).0 + (some_most_in (λ (p : Place). p.ready) net.places).0

pub listed_bounded : (net : NetLists) → All (λ l. All (λ d. d ≤ date_bound net) l.dates) net.inputs
unfolding date_bound
listed_bounded net i d l j e m =
    let own = some_most_in (λ (z : InputList). z.dates) net.inputs in
    let all : date_bound net ≡ own.0 + (some_most_in (λ (p : Place). p.ready) net.places).0 = refl in
    let low : get_or (get_or net.inputs i d).dates j e ≤ own.0 = own.1 i d l j e m in
    omega (arith, all, low)

pub ready_bounded : (net : NetLists) → All (λ p. All (λ d. d ≤ date_bound net) p.ready) net.places
unfolding date_bound
ready_bounded net i d l j e m =
    let own = some_most_in (λ (p : Place). p.ready) net.places in
    let all : date_bound net ≡ (some_most_in (λ (z : InputList). z.dates) net.inputs).0 + own.0 = refl in
    let low : get_or (get_or net.places i d).ready j e ≤ own.0 = own.1 i d l j e m in
    omega (arith, all, low)
