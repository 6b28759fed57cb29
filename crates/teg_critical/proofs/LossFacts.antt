-- What a certificate gives for the loss of one place.
use Rattle.std.proofs.Common.{ℕ, ℤ, pos, ◌*◌, ◌<◌, ◌≤◌, ◌≡◌, ◌+ℤ◌, ◌-ℤ◌, List, length, Option, Some, None, refl, sym, ap, subst, ◌∙◌, arith, ⊎_elim}
use Rattle.std.specs.Prelude.{◌≤ℤ◌}
use Rattle.std.specs.Int.Signed.{pos-nat_abs, yes_non_neg}
use Rattle.std.proofs.Math.IntN.{nat_abs}
use Rattle.std.proofs.Math.Nat.{mul-le-mul_left}
use Rattle.std.proofs.lemmas.Bool.{cases_lt}
use Rattle.std.proofs.lemmas.Int.{ints}
use Rattle.std.proofs.lemmas.List.{get_or_past}
use Rattle.teg_net.specs.declared.entries.PlaceId.{PlaceId}
use Rattle.teg_net.specs.declared.entries.Place.{Place}
use Rattle.teg_net.specs.declared.answers.Potential.{Potential}
use Rattle.teg_net.specs.declared.answers.PartAnswer.{PartAnswer}
use Rattle.teg_net.specs.declared.answers.PartAnswer.TheVariants.{NoCircuit, Best}
use Rattle.teg_net.specs.declared.answers.CycleAnswer.{CycleAnswer}
use Rattle.teg_net.specs.Limits.{greatest_checked_potential}
use Rattle.teg_net.specs.Nets.{NetLists, IsNet, IsPlaceOf}
use Rattle.teg_net.specs.Ratios.{Fraction, IsLowestTerms, IsRatioWithin}
use Rattle.teg_net.specs.Circuits.{no_place, place_at, from_of, IsCircuit, time_of, tokens_of}
use Rattle.teg_net.specs.Parts.{to_of, IsPlaceOfPart}
use Rattle.teg_net.specs.ReducedTimes.{IsMagnitudeWithin, reduced_time_of_place}
use Rattle.teg_net.specs.GreatestRatios.{ratio_in, ratio_at, IsFirstGreatest}
use Rattle.teg_net.specs.Certificates.{potential_at, IsBestCertificate, IsPartCertificate, IsCertificate}
use Rattle.teg_certificates.specs.BestRatios.{named_ratio, best_ratio_of}
use Rattle.teg_critical.specs.declared.losses.Loss.{Loss}
use Rattle.teg_critical.specs.Losses.{most_lost, IsLost, CanLose, CanLoseIn, IsLossIn, answer_of_part, part_of_transition, IsPlaceLoss}
use Rattle.teg_critical.proofs.Listed.{potential_within}

-- what lies between two whole numbers
gap_of : (x y : ℤ) → x ≤ℤ y → (n : ℕ) × ((pos n +ℤ x) ≡ y)
gap_of x y h =
    let e : pos (nat_abs (y -ℤ x)) ≡ (y -ℤ x) = pos-nat_abs (y -ℤ x) (yes_non_neg (omega (arith, ints, h))) in
    (nat_abs (y -ℤ x), omega (arith, ints, e))

lost_low : (n gain cost : ℕ) (s t : ℤ) → ((pos n +ℤ (pos gain -ℤ pos cost)) +ℤ s) ≡ t → IsMagnitudeWithin greatest_checked_potential s
    → IsMagnitudeWithin greatest_checked_potential t → cost ≤ 1000000000000000 → n ≤ most_lost
lost_low n gain cost s t e f g l = omega (arith, ints, e, f.low, g.high, l)

-- a ratio within the limits that some circuit has
pub record IsToldBy (net : NetLists) (r : Fraction) : Type 0 where
  pub small : IsRatioWithin r
  pub some : 1 ≤ r.tokens
  pub terms : IsLowestTerms r
  pub places : List PlaceId
  pub circuit : IsCircuit net places
  pub attains : time_of net places * r.tokens ≡ r.time * tokens_of net places

-- a told ratio is such a ratio
told_facts : (net : NetLists) (part_of : List ℕ) (k : ℕ) (q : PartAnswer) (r : Fraction) → IsPartCertificate net part_of k q → ratio_in q ≡ Some r
    → IsToldBy net r
told_facts net part_of k NoCircuit r h e = absurd (none_told r e) where
  none_told : (r : Fraction) → None ≡ Some r → ⊥
  none_told r e = cc
told_facts net part_of k (Best ratio circuit potentials) r h e =
    let same : ratio ≡ r = cc in
    subst (IsToldBy net) same (record {
      small = record { time_in = h.time_in; tokens_in = h.tokens_in };
      some = h.terms.some;
      terms = h.terms;
      places = circuit.places.items;
      circuit = h.circuit;
      attains = h.attains;
    })

-- the part that the answer names tells this ratio
record IsBestOf (answer : CycleAnswer) (r : Fraction) : Type 0 where
  pub part : ℕ
  pub best : answer.best ≡ Some part
  pub told : ratio_at answer.parts.items part ≡ Some r

named : (answers : List PartAnswer) (best : Option ℕ) (r : Fraction) → named_ratio answers best ≡ Some r → (k : ℕ) × (best ≡ Some k) × (ratio_at answers k ≡ Some r)
named answers None r e = let f : ⊥ = cc in absurd f
named answers (Some k) r e = (k, refl, e)

best_of : (answer : CycleAnswer) (r : Fraction) → best_ratio_of answer ≡ Some r → IsBestOf answer r
best_of answer r e = let w = named answer.parts.items answer.best r e in record { part = w.0; best = w.1; told = w.2 }

-- the part of a place has an answer
pub part_low : (net : NetLists) (answer : CycleAnswer) → IsCertificate net answer → (p : PlaceId) (k : ℕ) → IsPlaceOfPart net answer.part_of.items k p → k < length answer.parts.items
part_low net answer h p k inside = subst (λ (z : ℕ). z < length answer.parts.items) inside.from_member.here (h.below (from_of net p) 0 inside.from_member.in_range)

-- a place whose ends have this part's number
pub in_part : (net : NetLists) (answer : CycleAnswer) → IsCertificate net answer → IsNet net → (p : PlaceId) (k : ℕ) → p.index < length net.places
    → part_of_transition answer (from_of net p) ≡ k → part_of_transition answer (to_of net p) ≡ k → IsPlaceOfPart net answer.part_of.items k p
in_part net answer h ok p k l from to =
    let rules : IsPlaceOf net (place_at net p) = ok.each_place p.index no_place l in
    let count = h.count in
    let from_in = rules.from_in in
    let to_in = rules.to_in in
    record { in_range = l; from_member = record { in_range = omega arith; here = from }; to_member = record { in_range = omega arith; here = to } }

-- what a place of a part loses there is its loss
pub is_loss : (net : NetLists) (answer : CycleAnswer) (best : Fraction) (p : PlaceId) (k : ℕ) → IsPlaceOfPart net answer.part_of.items k p
    → (loss : Option Loss) → IsLossIn best (answer_of_part answer k) (place_at net p) loss → IsPlaceLoss net answer best p loss
is_loss net answer best p k inside loss is = record {
  inside = λ e. subst (λ (z : ℕ). IsLossIn best (answer_of_part answer z) (place_at net p) loss) (sym inside.from_member.here) is;
  apart = λ ne. absurd (ne (inside.from_member.here ∙ sym inside.to_member.here));
}

module _ (net : NetLists) (answer : CycleAnswer) (h : IsCertificate net answer) (best : Fraction) (is_best : best_ratio_of answer ≡ Some best) where
  b : IsBestOf answer best
  b = best_of answer best is_best

  part_in : b.part < length answer.parts.items
  part_in = ⊎_elim
      (λ (l : b.part < length answer.parts.items). l)
      (λ (l : length answer.parts.items ≤ b.part). absurd
      (let past : answer_of_part answer b.part ≡ NoCircuit =
      get_or_past answer.parts.items b.part NoCircuit l in none best (sym (ap ratio_in past) ∙ b.told)))
      (cases_lt b.part (length answer.parts.items)) where
        none : (r : Fraction) → ratio_in NoCircuit ≡ Some r → ⊥
        none r e = cc

  -- the best ratio is such a ratio
  pub best_told : IsToldBy net best
  best_told = told_facts net answer.part_of.items b.part (answer_of_part answer b.part) best (h.parts b.part part_in) b.told

  -- no part tells a greater one
  pub below_best : (k : ℕ) (r : Fraction) → ratio_at answer.parts.items k ≡ Some r → r.time * best.tokens ≤ best.time * r.tokens
  below_best k r e =
      let first : IsFirstGreatest answer.parts.items (Some b.part) = subst (IsFirstGreatest answer.parts.items) b.best h.best in
      let same : first.0 ≡ best = same_told (ratio_at answer.parts.items b.part) first.0 best first.1.here b.told in
      subst (λ (z : Fraction). r.time * z.tokens ≤ z.time * r.tokens) same (first.1.greatest k r e) where
        same_told : (o : Option Fraction) (x y : Fraction) → o ≡ Some x → o ≡ Some y → x ≡ y
        same_told o x y f g = (let z : Some x ≡ Some y = sym f ∙ g in cc)

  -- a place of part k
  module _ (ok : IsNet net) (p : PlaceId) (k : ℕ) (inside : IsPlaceOfPart net answer.part_of.items k p) where
    rules : IsPlaceOf net (place_at net p)
    rules = ok.each_place p.index no_place inside.in_range

    can_lose : (r : Fraction) (c : List PlaceId) (vs : List Potential) → IsBestCertificate net answer.part_of.items k r c vs
        → CanLose (reduced_time_of_place r (place_at net p)) (potential_at vs (from_of net p)) (potential_at vs (to_of net p))
    can_lose r c vs facts =
        let q : Place = place_at net p in
        let gap = gap_of (reduced_time_of_place r q +ℤ potential_at vs q.from.index) (potential_at vs q.to.index) (facts.potentials p inside) in
        let is : IsLost (reduced_time_of_place r q) (potential_at vs q.from.index) (potential_at vs q.to.index) gap.0 =
        grouped gap.0 (reduced_time_of_place r q) (potential_at vs q.from.index) (potential_at vs q.to.index) gap.1 in
        let start = potential_within vs q.from.index facts.within in
        let above = potential_within vs q.to.index facts.within in
        let few = rules.tokens_in in
        let small = facts.time_in in
        let one : r.time * q.tokens ≤ r.time * 1000 = mul-le-mul_left {m = q.tokens} {n = 1000} r.time (omega arith) in
        record {
          lost = gap.0;
          is = is;
          small = lost_low gap.0 (r.tokens * q.hold) (r.time * q.tokens) (potential_at vs q.from.index)
              (potential_at vs q.to.index) is start above (omega arith);
          start_in = start;
          above_in = above;
        } where
          grouped : (n : ℕ) (w s t : ℤ) → (pos n +ℤ (w +ℤ s)) ≡ t → ((pos n +ℤ w) +ℤ s) ≡ t
          grouped n w s t e = omega (arith, ints, e)

    by_answer : (part : PartAnswer) → IsPartCertificate net answer.part_of.items k part
        → ((r : Fraction) → ratio_in part ≡ Some r → r.time * best.tokens ≤ best.time * r.tokens) → CanLoseIn best part (place_at net p)
    by_answer NoCircuit facts below = facts p inside
    by_answer (Best ratio circuit potentials) facts below = record {
      best_small = best_told.small;
      own_small = record { time_in = facts.time_in; tokens_in = facts.tokens_in };
      some = facts.terms.some;
      below = below ratio refl;
      hold = rules.hold_in;
      tokens = rules.tokens_in;
      can_lose = can_lose ratio circuit.places.items potentials.items facts;
    }

    pub can_lose_in : CanLoseIn best (answer_of_part answer k) (place_at net p)
    can_lose_in = by_answer (answer_of_part answer k) (h.parts k (part_low net answer h p k inside)) (below_best k)
