-- Places with their ends, listed one by one.
use Rattle.std.proofs.Common.{ℕ, ◌<◌, ◌≤◌, ◌≡◌, List, length, get_or, take, refl, sym, ap, subst, ◌∙◌, Option, arith}
use Rattle.std.specs.Prelude.{All, Contains, IsSome, IsPermutation}
use Rattle.std.proofs.lemmas.List.{get_or_default}
use Rattle.std.proofs.lemmas.List.Elements.{All-take}
use Rattle.std.proofs.lemmas.List.Sorted.{All-permutation, Contains-permutation, length_permutation}
use Rattle.teg_net.specs.declared.entries.PlaceId.{PlaceId}
use Rattle.teg_net.specs.Nets.{NetLists, IsNet, IsPlaceOf}
use Rattle.teg_net.specs.Circuits.{no_place, place_at}
use Rattle.teg_critical.specs.declared.endings.Ending.{Ending}
use Rattle.teg_critical.specs.declared.losses.Loss.{Loss}
use Rattle.teg_critical.specs.Losses.{loss_at}
use Rattle.teg_critical.specs.LossEndings.{ending_at, IsEnding, IsEndingAt, AreEndings}
use Rattle.teg_net.proofs.Reading.{same_id}

-- what stands past the end of a list of places with their ends
abbrev pub no_ending : Ending
no_ending = record { start = 0; end = 0; place = record { index = 0 } }

-- the places below k that are told a loss are listed
pub record EndingsUpTo (net : NetLists) (losses : List (Option Loss)) (order : List Ending) (k : ℕ) : Type 0 where
  pub few : length order ≤ k
  pub known : All (IsEnding net) order
  pub all : (i : ℕ) → i < k → IsSome (loss_at losses (record { index = i })) → Contains order (ending_at net (record { index = i }))

pub endings_sorted : (net : NetLists) (losses : List (Option Loss)) (order sorted : List Ending) (k : ℕ)
    → EndingsUpTo net losses order k → k ≡ length net.places → IsPermutation order sorted → AreEndings net losses sorted
endings_sorted net losses order sorted k h full moved = record {
  few = (let few = h.few in omega (arith, length_permutation order sorted moved));
  known = All-permutation (IsEnding net) order sorted moved h.known;
  all = λ p l some. Contains-permutation order sorted (ending_at net p) moved
      (subst (λ (z : PlaceId). Contains order (ending_at net z)) (same_id (record { index = p.index }) p refl) (h.all p.index (omega arith) some));
}

-- ---- the first group

-- its places end at a transition of the net
pub end_in : (net : NetLists) → IsNet net → (e : Ending) → IsEnding net e → e.end < length net.transitions
end_in net ok e h =
    let rules : IsPlaceOf net (place_at net e.place) = ok.each_place e.place.index no_place h.in_range in
    let low : (place_at net e.place).to.index < length net.transitions = rules.to_in in
    let is : e.end ≡ (place_at net e.place).to.index = ap (λ (z : Ending). z.end) h.is in
    omega arith

-- and all at the same one
pub same_end : (net : NetLists) (rest : List Ending) (k : ℕ) (first : Ending) → All (IsEnding net) rest
    → All (λ (e : Ending). e.end ≡ (get_or rest 0 e).end) (take k rest) → 0 < length rest → first ≡ get_or rest 0 first
    → All (IsEndingAt net first.end) (take k rest)
same_end net rest k first known ends some is i d l =
    let e : Ending = get_or (take k rest) i d in
    record {
      ending = All-take (IsEnding net) k rest known i d l;
      there = ends i d l ∙ ap (λ (z : Ending). z.end) (sym (is ∙ get_or_default rest 0 first e some));
    }
