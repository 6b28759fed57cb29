-- An answer on cycle times that is a certificate, and has a best part, can be told.
use Rattle.std.proofs.Common.{◌≡◌, ℕ, zero, suc, ◌+◌, ◌*◌, ◌<◌, ◌≤◌, ◌^◌, ◌+ℤ◌, ◌≤ℤ◌, ℤ, pos, negsuc, unsigned_abs, true, false, ◌==◌, ◌&&◌, ◌⊎◌}
use Rattle.std.proofs.Common.{⊎_elim, inl, inr, Option, Some, None, List, [], ◌∷◌, All, AllPairs, Contains, map, length, get_or, slice_index_or, refl}
use Rattle.std.proofs.Common.{ap, ap₂, sym, subst, ◌∙◌, arith, eq-eqb, eqb-true}
use Rattle.std.proofs.lemmas.Bool.{cases_Bool, cases_lt, lt-ltb, and_parts, false_from_ne_true}
use Rattle.std.proofs.lemmas.List.{get_or_default, get_or-map, length-map, map-id}
use Rattle.std.proofs.lemmas.List.Elements.{All-cons}
use Rattle.std.proofs.lemmas.List.Kept.{AllPairs-cons}
use Rattle.std.proofs.Math.Dec.{leb→le}
use Rattle.std.proofs.lemmas.Simd.{map-map}
use Rattle.teg_net.specs.declared.answers.CycleAnswer.{CycleAnswer}
use Rattle.teg_net.specs.declared.answers.PartAnswer.{PartAnswer}
use Rattle.teg_net.specs.declared.answers.PartAnswer.TheVariants.{NoCircuit, Best}
use Rattle.teg_net.specs.declared.answers.Potential.{Potential}
use Rattle.teg_net.specs.declared.entries.PlaceId.{PlaceId}
use Rattle.teg_net.specs.declared.entries.TransitionId.{TransitionId}
use Rattle.teg_net.specs.Certificates.{IsCertificate, IsPartCertificate}
use Rattle.teg_net.specs.Circuits.{AreInRange, IsPathBetween, place_at}
use Rattle.teg_net.specs.GreatestRatios.{IsFirstGreatest, ratio_in, ratio_at}
use Rattle.teg_net.specs.Limits.{greatest_checked_potential}
use Rattle.teg_net.specs.Nets.{NetLists}
use Rattle.teg_net.specs.PartAnswers.{transitions_of}
use Rattle.teg_net.specs.Parts.{IsMember, ListsMembers}
use Rattle.teg_net.specs.Ratios.{Fraction}
use Rattle.teg_net.specs.ReducedTimes.{IsMagnitudeWithin}
use Rattle.teg_lines.specs.CycleLines.{NoCircuitIn, members_from, told_part_at, has_ratio, IsCycleTold, IsPartTold, IsFirstOfRatio, HasFirst}
use Rattle.teg_lines.specs.CycleMeanings.{cycle_lists, part_lists}

-- lists of numbers that rise and have the same elements

abbrev IsRising : List ℕ → Type 0
IsRising xs = AllPairs (λ a b. a < b) xs

head_or_tail : (x : ℕ) (xs : List ℕ) (t : ℕ) → Contains (x ∷ xs) t → (x ≡ t) ⊎ Contains xs t
head_or_tail x xs t (zero, l, e) = inl e
head_or_tail x xs t (suc k, l, e) = inr (k, omega (arith, l), e)

in_tail : (x : ℕ) (xs : List ℕ) (t : ℕ) → Contains xs t → Contains (x ∷ xs) t
in_tail x xs t (k, l, e) = (suc k, omega (arith, l), e)

at_head : (x : ℕ) (xs : List ℕ) → Contains (x ∷ xs) x
at_head x xs = (zero, omega arith, refl)

above : (x : ℕ) (xs : List ℕ) (t : ℕ) → IsRising (x ∷ xs) → Contains xs t → x < t
above x xs t rising (k, l, e) = subst (λ (u : ℕ). x < u) e (rising 0 (suc k) t (omega arith) (omega (arith, l)))

rest_rises : (x : ℕ) (xs : List ℕ) → IsRising (x ∷ xs) → IsRising xs
rest_rises x xs rising i j d l m = rising (suc i) (suc j) d (omega (arith, l)) (omega (arith, m))

nothing_in : (t : ℕ) → Contains [] t → ⊥
nothing_in t (k, l, e) = omega (arith, l)

heads_same : (x y : ℕ) (xs ys : List ℕ) → IsRising (x ∷ xs) → IsRising (y ∷ ys) → Contains (y ∷ ys) x → Contains (x ∷ xs) y → x ≡ y
heads_same x y xs ys o p f g =
    ⊎_elim (λ (e : y ≡ x). sym e)
    (λ (m : Contains ys x). ⊎_elim (λ (e : x ≡ y). e) (λ (n : Contains xs y). absurd (omega (arith, above y ys x p m, above x xs y o n))) (head_or_tail x xs y g))
    (head_or_tail y ys x f)

tail_in : (x y : ℕ) (xs ys : List ℕ) → x ≡ y → IsRising (x ∷ xs) → ((t : ℕ) → Contains (x ∷ xs) t → Contains (y ∷ ys) t) → (t : ℕ) → Contains xs t → Contains ys t
tail_in x y xs ys same o f t m =
    ⊎_elim (λ (e : y ≡ t). absurd (omega (arith, same, e, above x xs t o m))) (λ (n : Contains ys t). n) (head_or_tail y ys t (f t (in_tail x xs t m)))

one_rising : (xs ys : List ℕ) → IsRising xs → IsRising ys → ((t : ℕ) → Contains xs t → Contains ys t) → ((t : ℕ) → Contains ys t → Contains xs t) → xs ≡ ys
one_rising [] [] o p f g = refl
one_rising [] (y ∷ ys) o p f g = absurd (nothing_in y (g y (at_head y ys)))
one_rising (x ∷ xs) [] o p f g = absurd (nothing_in x (f x (at_head x xs)))
one_rising (x ∷ xs) (y ∷ ys) o p f g =
    let same = heads_same x y xs ys o p (f x (at_head x xs)) (g y (at_head y ys)) in
    ap₂ (λ (z : ℕ) (zs : List ℕ). z ∷ zs) same
    (one_rising xs ys (rest_rises x xs o) (rest_rises y ys p) (tail_in x y xs ys same o f) (tail_in y x ys xs (sym same) p g))

-- the members of a part, by their numbers

abbrev numbers_of : List TransitionId → List ℕ
numbers_of ts = map (λ t. t.index) ts

-- the transition of this number, where those from k on have these parts, has the part
abbrev IsMemberFrom : ℕ → List ℕ → ℕ → ℕ → Type 0
IsMemberFrom k ps part t = (i : ℕ) × (i < length ps) × (t ≡ k + i) × (get_or ps i 0 ≡ part)

next_member : (k p : ℕ) (ps : List ℕ) (part t : ℕ) → IsMemberFrom (k + 1) ps part t → IsMemberFrom k (p ∷ ps) part t
next_member k p ps part t (i, l, e, h) = (suc i, omega (arith, l), omega (arith, e), h)

only_members : (k : ℕ) (ps : List ℕ) (part t : ℕ) → Contains (numbers_of (members_from k ps part)) t → IsMemberFrom k ps part t
only_members k [] part t h = absurd (nothing_in t h)
only_members k (p ∷ ps) part t h =
    ⊎_elim
    (λ (e : (p == part) ≡ true). ⊎_elim (λ (q : k ≡ t). (zero, omega arith, omega (arith, q), eqb-true p part e))
    (λ (m : Contains (numbers_of (members_from (k + 1) ps part)) t). next_member k p ps part t (only_members (k + 1) ps part t m))
    (head_or_tail k (numbers_of (members_from (k + 1) ps part)) t (rw e at h)))
    (λ (e : (p == part) ≡ false). next_member k p ps part t (only_members (k + 1) ps part t (rw e at h)))
    (cases_Bool (p == part))

all_members : (k : ℕ) (ps : List ℕ) (part i t : ℕ) → i < length ps → t ≡ k + i → get_or ps i 0 ≡ part → Contains (numbers_of (members_from k ps part)) t
all_members k [] part i t l e h = absurd (omega (arith, l))
all_members k (p ∷ ps) part zero t l e h =
    let here : (p == part) ≡ true = eq-eqb p part h in
    let same : k ≡ t = omega (arith, e) in
    rw here (subst (λ (u : ℕ). Contains (k ∷ numbers_of (members_from (k + 1) ps part)) u) same (at_head k (numbers_of (members_from (k + 1) ps part))))
all_members k (p ∷ ps) part (suc i) t l e h =
    let rest = all_members (k + 1) ps part i t (omega (arith, l)) (omega (arith, e)) h in
    ⊎_elim (λ (q : (p == part) ≡ true). rw q (in_tail k (numbers_of (members_from (k + 1) ps part)) t rest)) (λ (q : (p == part) ≡ false). rw q rest) (cases_Bool (p == part))

members_rise : (k : ℕ) (ps : List ℕ) (part : ℕ) → IsRising (numbers_of (members_from k ps part))
members_rise k [] part = λ i j d l m. absurd (omega (arith, m))
members_rise k (p ∷ ps) part =
    let rest = members_rise (k + 1) ps part in
    let later : All (λ t. k < t) (numbers_of (members_from (k + 1) ps part)) = λ i d l.
    let member = only_members (k + 1) ps part (get_or (numbers_of (members_from (k + 1) ps part)) i d) (i, l, get_or_default _ i _ d l) in omega (arith, member.2) in
    ⊎_elim (λ (e : (p == part) ≡ true). rw e (AllPairs-cons (λ a b. a < b) k (numbers_of (members_from (k + 1) ps part)) later rest)) (λ (e : (p == part) ≡ false). rw e rest) (cases_Bool (p == part))

-- the potentials of a part are those of its members

member_at : (part_of : List ℕ) (part : ℕ) (ts : List ℕ) (t : ℕ) → All (IsMember part_of part) ts → Contains ts t → IsMember part_of part t
member_at part_of part ts t h (k, l, e) = subst (IsMember part_of part) e (h k t l)

pub listed_members : (part_of : List ℕ) (part : ℕ) (ts : List ℕ) → ListsMembers part_of part ts → ts ≡ numbers_of (members_from 0 part_of part)
listed_members part_of part ts h =
    one_rising ts (numbers_of (members_from 0 part_of part)) h.ordered (members_rise 0 part_of part)
    (λ t m. let here = member_at part_of part ts t h.only m in all_members 0 part_of part t t here.in_range (omega arith) here.here)
    (λ t m. let here = only_members 0 part_of part t m in
    let same : here.0 ≡ t = omega (arith, here.2) in
    h.all t (record { in_range = omega (arith, here.1, same); here = subst (λ (j : ℕ). get_or part_of j 0 ≡ part) same here.3 }))

abbrev with_number : ℕ → TransitionId
with_number n = record { index = n }

pub potentials_of_members : (part_of : List ℕ) (part : ℕ) (vs : List Potential) → ListsMembers part_of part (transitions_of vs) → map (λ v. v.transition) vs ≡ members_from 0 part_of part
potentials_of_members part_of part vs h =
    sym (map-map with_number (λ (v : Potential). v.transition.index) vs)
    ∙ (ap (map with_number) (listed_members part_of part (transitions_of vs) h)
    ∙ (map-map with_number (λ (t : TransitionId). t.index) (members_from 0 part_of part) ∙ map-id (members_from 0 part_of part)))

-- a path stays in the net
path_in : (net : NetLists) (a : ℕ) (ps : List PlaceId) (b : ℕ) → IsPathBetween net a ps b → AreInRange net ps
path_in net a [] b h = λ i d l. absurd (omega (arith, l))
path_in net a (p ∷ ps) b h = All-cons (λ q. q.index < length net.places) p ps h.0 (path_in net (place_at net p).to.index ps b h.2)

below_zero : (n : ℕ) → greatest_checked_potential < suc n → pos 0 ≤ℤ (negsuc n +ℤ pos greatest_checked_potential) → ⊥
below_zero n m h = rw (lt-ltb greatest_checked_potential (suc n) m) at h.le

small : (z : ℤ) → IsMagnitudeWithin greatest_checked_potential z → unsigned_abs z < 2 ^ 128
small (pos n) h = let few : n ≤ greatest_checked_potential = leb→le n greatest_checked_potential h.high.le in omega (arith, few)
small (negsuc n) h = ⊎_elim (λ (m : greatest_checked_potential < suc n). absurd (below_zero n m h.low))
    (λ (w : suc n ≤ greatest_checked_potential). omega (arith, w)) (cases_lt greatest_checked_potential (suc n))

part_told : (net : NetLists) (part_of : List ℕ) (n : ℕ) (part : PartAnswer) → length part_of ≡ length net.transitions
    → IsPartCertificate net part_of n part → IsPartTold net (members_from 0 part_of n) (part_lists part)
part_told net part_of n NoCircuit full h = tt
part_told net part_of n (Best ratio circuit potentials) full h = record {
  time = omega (arith, h.time_in);
  tokens = omega (arith, h.tokens_in);
  circuit_in = path_in net h.circuit.closed.0 circuit.places.items h.circuit.closed.0 h.circuit.closed.1;
  members_are = potentials_of_members part_of n potentials.items h.members;
  potentials_in = λ i d l. record {
    transition =
        let member = h.members.only i d.transition.index (omega (arith, l, length-map potentials.items (λ v. v.transition.index))) in
        omega (arith, member.in_range, full, ap (λ (t : ℕ). t) (get_or-map (λ (v : Potential). v.transition.index) potentials.items i d d.transition.index l));
    value = small (get_or potentials.items i d).value (h.within i d l);
  };
}

-- the first part of greatest ratio

parts_at : (parts : List PartAnswer) (n : ℕ) → n < length parts → told_part_at (map part_lists parts) n ≡ part_lists (slice_index_or parts n NoCircuit)
parts_at parts n l = get_or-map part_lists parts n NoCircuit NoCircuitIn l

other_ratio : (r : Fraction) (part : PartAnswer) → ((q : Fraction) → ratio_in part ≡ Some q → q.time * r.tokens < r.time * q.tokens) → has_ratio r (part_lists part) ≡ false
other_ratio r NoCircuit h = refl
other_ratio r (Best ratio circuit potentials) h =
    false_from_ne_true _ (λ (e : ((ratio.time == r.time) && (ratio.tokens == r.tokens)) ≡ true).
    let same = and_parts (ratio.time == r.time) (ratio.tokens == r.tokens) e in
    let time = eqb-true ratio.time r.time same.0 in
    let tokens = eqb-true ratio.tokens r.tokens same.1 in
    let less : ratio.time * r.tokens < r.time * ratio.tokens = h ratio refl in
    let less' : r.time * r.tokens < r.time * r.tokens = rw (time, tokens) at less in
    omega (arith, less'))

first_told : (parts : List PartAnswer) (k : ℕ) (r : Fraction) (part : PartAnswer) → k < length parts → slice_index_or parts k NoCircuit ≡ part → ratio_in part ≡ Some r →
    ((j : ℕ) (q : Fraction) → j < k → ratio_at parts j ≡ Some q → q.time * r.tokens < r.time * q.tokens) → IsFirstOfRatio (map part_lists parts) k (part_lists part)
first_told parts k r NoCircuit l e here first = let no : None ≡ Some r = here in cc
first_told parts k r (Best ratio circuit potentials) l e here first = λ m less.
    let same : ratio ≡ r = let both : Some ratio ≡ Some r = here in cc in
    ap (has_ratio ratio) (parts_at parts m (omega (arith, l, less)))
    ∙ (ap (λ (q : Fraction). has_ratio q (part_lists (slice_index_or parts m NoCircuit))) same ∙ other_ratio r (slice_index_or parts m NoCircuit) (λ q h. first m q less h))

in_list : (parts : List PartAnswer) (k : ℕ) (r : Fraction) → ratio_at parts k ≡ Some r → k < length parts
in_list [] k r h = let no : None ≡ Some r = h in cc
in_list (part ∷ parts) zero r h = omega arith
in_list (part ∷ parts) (suc k) r h = omega (arith, in_list parts k r h)

first_of : (parts : List PartAnswer) (best : Option ℕ) (k : ℕ) → best ≡ Some k → IsFirstGreatest parts best → HasFirst (map part_lists parts) best
first_of parts None k e h = let no : None ≡ Some k = e in cc
first_of parts (Some n) k e h =
    let l = in_list parts n h.0 h.1.here in
    let first = first_told parts n h.0 (slice_index_or parts n NoCircuit) l refl h.1.here h.1.first in
    (omega (arith, l, length-map parts part_lists), subst (IsFirstOfRatio (map part_lists parts) n) (sym (parts_at parts n l)) first)

-- a certificate with a best part can be told
pub certificate_told : (net : NetLists) (answer : CycleAnswer) (best : ℕ) → IsCertificate net answer → answer.best ≡ Some best → IsCycleTold net (cycle_lists answer)
certificate_told net answer best h e =
    let parts = answer.parts.items in
    let part_of = answer.part_of.items in
    record {
      full = h.count;
      part_of_in = λ i d l. omega (arith, h.below i d l, length-map parts part_lists);
      parts = λ n l.
          let here : n < length parts = omega (arith, l, length-map parts part_lists) in
          subst (IsPartTold net (members_from 0 part_of n)) (sym (parts_at parts n here)) (part_told net part_of n (slice_index_or parts n NoCircuit) h.count (h.parts n here));
      best = first_of parts answer.best best e h.best;
    }
