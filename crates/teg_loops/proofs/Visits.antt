-- Transitions that a path meets, and closed paths gone round several times.
use Rattle.std.proofs.Common.{ℕ, zero, suc, ◌+◌, ◌-◌, ◌*◌, ◌<◌, ◌≤◌, ◌≡◌, ◌≢◌, List, [], ◌∷◌, ◌++◌, length, get_or, refl, sym, ap, ◌∙◌, arith, ⊎_elim, ◌⊎◌}
use Rattle.std.specs.Prelude.{All, sum_by}
use Rattle.std.proofs.lemmas.Bool.{cases_lt, cases_eq}
use Rattle.std.proofs.lemmas.List.{length-append}
use Rattle.std.proofs.lemmas.List.Sums.{sum_by-append}
use Rattle.teg_net.specs.declared.entries.PlaceId.{PlaceId}
use Rattle.teg_net.specs.Nets.{NetLists}
use Rattle.teg_net.specs.Circuits.{place_at, from_of, IsPathBetween}
use Rattle.teg_net.proofs.PathLaws.{IsPathBetween-append}
use Rattle.teg_loops.proofs.Stops.{met, first_met}

-- the path meets the transition
pub record Meets (net : NetLists) (b : ℕ) (ps : List PlaceId) (c : ℕ) : Type 0 where
  pub place : ℕ
  pub within : place ≤ length ps
  pub is : get_or (met net b ps) place 0 ≡ c

-- the path up to where it first meets the transition, and from there on
pub record FirstVisit (net : NetLists) (a b c : ℕ) (ps : List PlaceId) : Type 0 where
  pub before : List PlaceId
  pub after : List PlaceId
  pub is : ps ≡ before ++ after
  pub first : IsPathBetween net a before c
  pub last : IsPathBetween net c after b
  pub off : All (λ p. from_of net p ≢ c) before

first_visit_on : (net : NetLists) (c : ℕ) (ps : List PlaceId) (a b i : ℕ) → IsPathBetween net a ps b → i ≤ length ps → get_or (met net b ps) i 0 ≡ c → FirstVisit net a b c ps
first_visit_on net c [] a b zero h l e = record { before = []; after = []; is = refl; first = h ∙ e; last = sym e; off = λ i d m. absurd (omega arith) }
first_visit_on net c [] a b (suc i) h l e = absurd (omega arith)
first_visit_on net c (p ∷ ps) a b zero h l e = record { before = []; after = p ∷ ps; is = refl; first = sym h.1 ∙ e; last = (h.0, e, h.2); off = λ i d m. absurd (omega arith) }
first_visit_on net c (p ∷ ps) a b (suc i) h l e = ⊎_elim
    (λ (here : from_of net p ≡ c). record { before = []; after = p ∷ ps; is = refl; first = sym h.1 ∙ here; last = (h.0, here, h.2); off = λ j d m. absurd (omega arith) })
    (λ (ne : from_of net p ≢ c).
    let old : FirstVisit net (place_at net p).to.index b c ps = first_visit_on net c ps (place_at net p).to.index b i h.2 (omega arith) e in
    record { before = p ∷ old.before; after = old.after; is = ap (λ (z : List PlaceId). p ∷ z) old.is; first = (h.0, h.1, old.first); last = old.last; off = off_more p old.before ne old.off })
    (cases_eq (from_of net p) c) where
      off_more : (p : PlaceId) (qs : List PlaceId) → from_of net p ≢ c → All (λ q. from_of net q ≢ c) qs → All (λ q. from_of net q ≢ c) (p ∷ qs)
      off_more p qs ne all zero d m = ne
      off_more p qs ne all (suc j) d m = all j d (omega arith)

pub first_visit : (net : NetLists) (c : ℕ) (ps : List PlaceId) (a b : ℕ) → IsPathBetween net a ps b → Meets net b ps c → FirstVisit net a b c ps
first_visit net c ps a b h m = first_visit_on net c ps a b m.place h m.within m.is

-- before the end of u the same transitions are met, whatever follows
meets_left : (net : NetLists) (b : ℕ) (u v w : List PlaceId) (i : ℕ) → i < length u → get_or (met net b (u ++ v)) i 0 ≡ get_or (met net b (u ++ w)) i 0
meets_left net b [] v w i l = absurd (omega arith)
meets_left net b (p ∷ u) v w zero l = refl
meets_left net b (p ∷ u) v w (suc i) l = meets_left net b u v w i (omega arith)

-- from the end of u on those of v
meets_right : (net : NetLists) (b : ℕ) (u v : List PlaceId) (k : ℕ) → get_or (met net b (u ++ v)) (length u + k) 0 ≡ get_or (met net b v) k 0
meets_right net b [] v k = let z : 0 + k ≡ k = omega arith in rw z refl
meets_right net b (p ∷ u) v k = let z : length (p ∷ u) + k ≡ suc (length u + k) = omega arith in rw z (meets_right net b u v k)

-- put together at a transition, a path meets it
pub joined_meets : (net : NetLists) (u v : List PlaceId) (c b : ℕ) → IsPathBetween net c v b → Meets net b (u ++ v) c
joined_meets net u v c b h =
    let long = length-append u v in
    record { place = length u + 0; within = omega arith; is = meets_right net b u v 0 ∙ first_met net v c b h }

-- with a piece put in, a path meets what it met
pub still_meets : (net : NetLists) (b c : ℕ) (u l v : List PlaceId) → Meets net b (u ++ v) c → Meets net b (u ++ (l ++ v)) c
still_meets net b c u l v m =
    let one = length-append u v in
    let two = length-append u (l ++ v) in
    let three = length-append l v in
    let within = m.within in
    ⊎_elim
    (λ (near : m.place < length u). record { place = m.place; within = omega arith; is = meets_left net b u (l ++ v) v m.place near ∙ m.is })
    (λ (far : length u ≤ m.place).
    let k : ℕ = m.place - length u in
    let k_is : m.place ≡ length u + k = omega arith in
    record {
      place = length u + (length l + k);
      within = omega arith;
      is = meets_right net b u (l ++ v) (length l + k) ∙ meets_right net b l v k ∙ sym (meets_right net b u v k) ∙ ap (λ (z : ℕ). get_or (met net b (u ++ v)) z 0) (sym k_is) ∙ m.is;
    })
    (cases_lt m.place (length u))

-- the path gone round r times
abbrev pub rounds : ℕ → List PlaceId → List PlaceId
rounds zero ps = []
rounds (suc r) ps = ps ++ rounds r ps

-- it closes as often
pub rounds_lead : (net : NetLists) (c : ℕ) (ps : List PlaceId) (r : ℕ) → IsPathBetween net c ps c → IsPathBetween net c (rounds r ps) c
rounds_lead net c ps zero h = refl
rounds_lead net c ps (suc r) h = IsPathBetween-append net ps (rounds r ps) c c c h (rounds_lead net c ps r h)

-- and each sum is r times the one
pub rounds_sum : (f : PlaceId → ℕ) (ps : List PlaceId) (r : ℕ) → sum_by f (rounds r ps) ≡ r * sum_by f ps
rounds_sum f ps zero = omega arith
rounds_sum f ps (suc r) =
    let one = sum_by-append f ps (rounds r ps) in
    let two = rounds_sum f ps r in
    let three : suc r * sum_by f ps ≡ sum_by f ps + r * sum_by f ps = omega arith in
    omega arith
