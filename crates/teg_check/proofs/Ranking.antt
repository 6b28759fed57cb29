-- The loop of `check`: ranks given so far, from the highest down.
use Rattle.std.proofs.Common.{ℕ, zero, suc, ◌+◌, ◌<◌, ◌≤◌, ◌≡◌, ◌≢◌, List, [], ◌∷◌, Bool, true, false, length, get_or, set, refl, sym, ap, ◌∙◌, arith, ⊎_elim, cond}
use Rattle.std.specs.Prelude.{All, count_by}
use Rattle.std.proofs.lemmas.Bool.{cases_eq, cases_lt, cases_Bool}
use Rattle.std.proofs.lemmas.List.{length-set, get_or-set_same, get_or-set_other, get_or_default, get_or_past}
use Rattle.std.proofs.lemmas.List.Sums.{sum_by-set, sum_by-cons, count_by-le-length}
use Rattle.std.proofs.lemmas.List.Elements.{All-set}
use Rattle.teg_net.specs.declared.entries.PlaceId.{PlaceId}
use Rattle.teg_net.specs.Nets.{NetLists, IsNet}
use Rattle.teg_net.specs.Circuits.{no_place}
use Rattle.teg_check.specs.Ranks.{IsRanking}
use Rattle.teg_check.specs.Exits.{IsUnranked, IsExit}

abbrev pub IsDone : List Bool → ℕ → Type 0
IsDone ranked t = get_or ranked t true ≡ true

abbrev one : Bool → ℕ
one b = cond b 1 0

abbrev pub done_count : List Bool → ℕ
done_count ranked = count_by (λ b. b) ranked

pub record Ranked (net : NetLists) (ranks : List ℕ) (ranked : List Bool) (rank : ℕ) : Type 0 where
  pub count_ranks : length ranks ≡ length net.transitions
  pub count_ranked : length ranked ≡ length net.transitions
  pub rises : (k : ℕ) → k < length net.places → (get_or net.places k no_place).tokens ≡ 0 → IsDone ranked (get_or net.places k no_place).from.index
      → IsDone ranked (get_or net.places k no_place).to.index × (get_or ranks (get_or net.places k no_place).from.index 0 < get_or ranks (get_or net.places k no_place).to.index 0)
  pub above : (t : ℕ) → t < length ranks → IsDone ranked t → rank ≤ get_or ranks t 0
  pub small : All (λ r. r < length net.transitions) ranks
  pub left : done_count ranked + rank ≡ length net.transitions

not_unranked : (ranked : List Bool) (t : ℕ) → (IsUnranked ranked t → ⊥) → IsDone ranked t
not_unranked ranked t h = ⊎_elim (λ e. e) (λ e. absurd (h e)) (cases_Bool (get_or ranked t true))

pub unranked_in : (ranked : List Bool) (t : ℕ) → IsUnranked ranked t → t < length ranked
unranked_in ranked t f = ⊎_elim (λ l. l) (λ (p : length ranked ≤ t). let e = get_or_past ranked t true p in cc) (cases_lt t (length ranked))

-- a ranked transition is not an unranked one
apart : (ranked : List Bool) (t u : ℕ) → IsUnranked ranked t → IsDone ranked u → u ≢ t
apart ranked t u f d e = let g = ap (λ x. get_or ranked x true) e in cc

more_done : (ranked : List Bool) (t : ℕ) → IsUnranked ranked t → done_count (set ranked t true) ≡ done_count ranked + 1
more_done ranked t f =
    let s = sum_by-set (λ b. cond b 1 0) ranked t true true (unranked_in ranked t f) in
    let z = ap one f in
    omega (arith, s, z)

pub ranked_more :
    (net : NetLists) (ranks : List ℕ) (ranked : List Bool) (rank t : ℕ)
    → IsNet net → Ranked net ranks ranked (rank + 1) → IsUnranked ranked t → ((id : PlaceId) → IsExit net ranked t id → ⊥)
    → Ranked net (set ranks t rank) (set ranked t true) rank
ranked_more net ranks ranked rank t ok h unranked no_exit =
    let in_ranked : t < length ranked = unranked_in ranked t unranked in
    let in_ranks : t < length ranks = omega (arith, h.count_ranks, h.count_ranked) in
    let kept = λ (u : ℕ) (d : IsDone ranked u). get_or-set_other ranked t u true true (apart ranked t u unranked d) ∙ d in
    let same_rank = λ (u : ℕ) (d : IsDone ranked u). get_or-set_other ranks t u rank 0 (apart ranked t u unranked d) in
    let mine : get_or (set ranks t rank) t 0 ≡ rank = get_or-set_same ranks t rank 0 in_ranks in
    record {
      count_ranks = length-set ranks t rank ∙ h.count_ranks;
      count_ranked = length-set ranked t true ∙ h.count_ranked;
      rises = λ k l z d.
          let from : ℕ = (get_or net.places k no_place).from.index in
          let to : ℕ = (get_or net.places k no_place).to.index in
          let to_in : to < length ranks = omega (arith, (ok.each_place k no_place l).to_in, h.count_ranks) in
          ⊎_elim
          (λ (q : from ≡ t).
          let to_done : IsDone ranked to = not_unranked ranked to (λ f. no_exit (record { index = k }) (record { in_range = l; begins = q; no_tokens = z; ends_unranked = f })) in
          let high = h.above to to_in to_done in
          let a : get_or (set ranks t rank) from 0 ≡ rank = ap (λ x. get_or (set ranks t rank) x 0) q ∙ mine in
          (kept to to_done, omega (arith, a, same_rank to to_done, high)))
          (λ (q : from ≢ t).
          let from_done : IsDone ranked from = sym (get_or-set_other ranked t from true true q) ∙ d in
          let old = h.rises k l z from_done in
          (kept to old.0, omega (arith, same_rank from from_done, same_rank to old.0, old.1)))
          (cases_eq from t);
      above = λ u l d.
          ⊎_elim
          (λ (q : u ≡ t). let a : get_or (set ranks t rank) u 0 ≡ rank = ap (λ x. get_or (set ranks t rank) x 0) q ∙ mine in omega arith)
          (λ (q : u ≢ t).
          let u_done : IsDone ranked u = sym (get_or-set_other ranked t u true true q) ∙ d in
          omega (arith, same_rank u u_done, h.above u (omega (arith, length-set ranks t rank)) u_done))
          (cases_eq u t);
      small = All-set (λ r. r < length net.transitions) ranks t rank (omega (arith, h.left)) h.small;
      left = omega (arith, more_done ranked t unranked, h.left);
    }

-- where as many are marked as there are, each is
all_done : (xs : List Bool) → done_count xs ≡ length xs → (t : ℕ) → IsDone xs t
all_done [] e t = refl
all_done (true ∷ xs) e zero = refl
all_done (true ∷ xs) e (suc t) = all_done xs (omega (arith, sum_by-cons (λ b. cond b 1 0) true xs)) t
all_done (false ∷ xs) e t = absurd (omega (arith, sum_by-cons (λ b. cond b 1 0) false xs, count_by-le-length (λ b. b) xs))

pub ranking : (net : NetLists) (ranks : List ℕ) (ranked : List Bool) → Ranked net ranks ranked 0 → IsRanking net ranks
ranking net ranks ranked h = record {
  count = h.count_ranks;
  small = h.small;
  rises = λ k d l z.
      let full : done_count ranked ≡ length ranked = omega (arith, h.left, h.count_ranked) in
      let read = get_or_default net.places k d no_place l in
      rw read (h.rises k l (rw read at z) (all_done ranked full (get_or net.places k no_place).from.index)).1;
}

all_count : (xs : List Bool) → ((t : ℕ) → IsDone xs t) → done_count xs ≡ length xs
all_count [] h = refl
all_count (x ∷ xs) h =
    let first : x ≡ true = h 0 in
    let rest = all_count xs (λ t. h (suc t)) in
    omega (arith, sum_by-cons (λ b. cond b 1 0) x xs, ap one first, rest)

-- while not all are marked, one is unranked
pub some_unranked : (ranked : List Bool) → done_count ranked < length ranked → (((t : ℕ) → IsUnranked ranked t → ⊥) → ⊥)
some_unranked ranked l h = absurd (omega (arith, all_count ranked (λ t. not_unranked ranked t (h t))))
