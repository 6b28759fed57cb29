-- What the places of a path lose together, and so what closed paths lack to the greatest ratio.
use Rattle.std.proofs.Common.{ℕ, ℤ, pos, suc, ◌+◌, ◌-◌, ◌*◌, ◌<◌, ◌≤◌, ◌≡◌, ◌+ℤ◌, ◌-ℤ◌, List, [], ◌∷◌, length, get_or, Option, Some, None, refl, sym, ap, subst, ◌∙◌, arith}
use Rattle.std.specs.Prelude.{All, slice_index}
use Rattle.std.specs.Option.{is_some}
use Rattle.std.proofs.lemmas.Int.{ints}
use Rattle.std.proofs.lemmas.List.Sums.{sum_by-cons}
use Rattle.std.proofs.Math.Nat.{le_of_mul-le-mul_left}
use Rattle.teg_net.specs.declared.entries.PlaceId.{PlaceId}
use Rattle.teg_net.specs.declared.answers.CycleAnswer.{CycleAnswer}
use Rattle.teg_net.specs.Nets.{NetLists, IsNet}
use Rattle.teg_net.specs.Ratios.{Fraction}
use Rattle.teg_net.specs.Circuits.{place_at, from_of, IsPathBetween, IsCircuit, time_of, tokens_of}
use Rattle.teg_net.specs.Parts.{to_of, IsPlaceOfPart}
use Rattle.teg_net.specs.ReducedTimes.{reduced_time_of}
use Rattle.teg_net.specs.GreatestRatios.{IsGreatestRatio, IsAnyPlace}
use Rattle.teg_net.specs.Certificates.{potential_at, IsCertificate}
use Rattle.teg_critical.proofs.Certified.{closed_inside}
use Rattle.teg_certificates.proofs.PathSums.{weight_is}
use Rattle.teg_critical.specs.declared.losses.Loss.{Loss}
use Rattle.teg_critical.specs.Losses.{ratio_of, potentials_of, IsLossOf, IsLossIn, answer_of_part, loss_at, AreLosses}
use Rattle.teg_critical.specs.LeastLosses.{amount_in, loss_of_path, IsWay}
use Rattle.teg_critical.proofs.Rises.{any_places}

-- one more place
lost_more : (here rest : ℕ) (count counts s m t : ℤ) → ((pos here +ℤ count) +ℤ s) ≡ m → ((pos rest +ℤ counts) +ℤ m) ≡ t → ((pos (here + rest) +ℤ (count +ℤ counts)) +ℤ s) ≡ t
lost_more here rest count counts s m t e f = omega (arith, ints, e, f)

amount_more : (b d here rest m ms loss losses : ℕ) → loss ≡ b * here + d * m → losses ≡ b * rest + d * ms → loss + losses ≡ b * (here + rest) + d * (m + ms)
amount_more b d here rest m ms loss losses e f =
    let one : b * (here + rest) ≡ b * here + b * rest = grind arith in
    let two : d * (m + ms) ≡ d * m + d * ms = grind arith in
    omega arith

-- a round: what it loses and what it counts are nothing together
round_lost : (lost k t : ℕ) (w v : ℤ) → ((pos lost +ℤ w) +ℤ v) ≡ v → (w +ℤ pos k) ≡ pos t → lost + t ≡ k
round_lost lost k t w v e f = omega (arith, ints, e, f)

round_amount : (a b d s u lost time tokens loss : ℕ) → d + s * b ≡ a * u → lost + u * time ≡ s * tokens → loss ≡ b * lost + d * tokens → loss + u * (time * b) ≡ u * (a * tokens)
round_amount a b d s u lost time tokens loss e f g =
    let one : b * (lost + u * time) ≡ b * (s * tokens) = ap (λ (z : ℕ). b * z) f in
    let two : b * (lost + u * time) ≡ b * lost + u * (time * b) = grind arith in
    let three : (d + s * b) * tokens ≡ (a * u) * tokens = ap (λ (z : ℕ). z * tokens) e in
    let four : (d + s * b) * tokens ≡ d * tokens + b * (s * tokens) = grind arith in
    let five : (a * u) * tokens ≡ u * (a * tokens) = grind arith in
    omega arith

module _ (net : NetLists) (ok : IsNet net) (answer : CycleAnswer) (h : IsCertificate net answer) (r : Fraction) (losses : List (Option Loss)) (lost : AreLosses net answer r losses) where
  abbrev parts : List ℕ
  parts = answer.part_of.items

  abbrev value : ℕ → ℕ → ℤ
  value k t = potential_at (potentials_of (answer_of_part answer k)) t

  abbrev own : ℕ → Fraction
  own k = ratio_of (answer_of_part answer k)

  -- how much the part's ratio is below the greatest
  abbrev slower : ℕ → ℕ
  slower k = r.time * (own k).tokens - (own k).time * r.tokens

  pub record HasLoss (k : ℕ) (p : PlaceId) : Type 0 where
    pub loss : Loss
    pub told : loss_at losses p ≡ Some loss
    pub is : IsLossOf r (own k) (value k (from_of net p)) (value k (to_of net p)) (place_at net p) loss

  -- a place of a part is told its loss
  pub has_loss : (k : ℕ) (p : PlaceId) → IsPlaceOfPart net parts k p → HasLoss k p
  has_loss k p inside =
      let told = (lost.each p inside.in_range).inside (inside.from_member.here ∙ sym inside.to_member.here) in
      by_told (loss_at losses p) refl (subst (λ (z : ℕ). IsLossIn r (answer_of_part answer z) (place_at net p) (loss_at losses p)) inside.from_member.here told) where
        by_told : (o : Option Loss) → loss_at losses p ≡ o → IsLossIn r (answer_of_part answer k) (place_at net p) o → HasLoss k p
        by_told None e f = absurd f
        by_told (Some loss) e f = record { loss = loss; told = e; is = f }

  pub record HasSum (k : ℕ) (s : ℕ) (ps : List PlaceId) (t : ℕ) : Type 0 where
    pub all : ℕ
    pub is : ((pos all +ℤ reduced_time_of net (own k).time (own k).tokens ps) +ℤ value k s) ≡ value k t
    pub amount : loss_of_path losses ps ≡ r.tokens * all + slower k * tokens_of net ps

  -- the sums along a path of a part
  sums : (k : ℕ) (ps : List PlaceId) (s t : ℕ) → All (IsPlaceOfPart net parts k) ps → IsPathBetween net s ps t → HasSum k s ps t
  sums k [] s t inside path = record { all = 0; is = none (value k s) (value k t) (ap (value k) path); amount = nothing r.tokens (slower k) } where
    none : (x y : ℤ) → x ≡ y → ((pos 0 +ℤ pos 0) +ℤ x) ≡ y
    none x y e = omega (arith, ints, e)

    nothing : (b d : ℕ) → 0 ≡ b * 0 + d * 0
    nothing b d = omega arith
  sums k (p ∷ ps) s t inside path =
      let here : HasLoss k p = has_loss k p (inside 0 p (omega arith)) in
      let rest : HasSum k (to_of net p) ps t = sums k ps (to_of net p) t (λ i d l. inside (suc i) d (omega arith)) path.2 in
      let from : value k (from_of net p) ≡ value k s = ap (value k) path.1 in
      let amount : amount_in (loss_at losses p) ≡ r.tokens * here.is.lost + slower k * (place_at net p).tokens = ap amount_in here.told ∙ here.is.amount in
      let both = amount_more r.tokens (slower k) here.is.lost rest.all (place_at net p).tokens (tokens_of net ps) (amount_in (loss_at losses p)) (loss_of_path losses ps) amount rest.amount in
      let start = subst (λ (z : ℤ). ((pos here.is.lost +ℤ
      (pos ((own k).tokens * (place_at net p).hold) -ℤ pos ((own k).time * (place_at net p).tokens))) +ℤ z) ≡ value k (to_of net p)) from here.is.is_lost in
      let more = sum_by-cons (λ q. (place_at net q).tokens) p ps in
      record {
        all = here.is.lost + rest.all;
        is = lost_more here.is.lost rest.all (pos ((own k).tokens * (place_at net p).hold) -ℤ pos
            ((own k).time * (place_at net p).tokens)) (reduced_time_of net (own k).time (own k).tokens ps) (value k s)
            (value k (to_of net p)) (value k t) start rest.is;
        amount = sum_by-cons (λ q. amount_in (loss_at losses q)) p ps ∙ both ∙ ap (λ (z : ℕ). r.tokens * (here.is.lost + rest.all) + slower k * z) (sym more);
      }

  -- a round of the part k from p on
  pub round_is : (k : ℕ) (p : PlaceId) (ps : List PlaceId) (a : ℕ) → All (IsPlaceOfPart net parts k) (p ∷ ps) → IsPathBetween net a (p ∷ ps) a
      → loss_of_path losses (p ∷ ps) + (own k).tokens * (time_of net (p ∷ ps) * r.tokens) ≡ (own k).tokens * (r.time * tokens_of net (p ∷ ps))
  round_is k p ps a inside path =
      let here : HasLoss k p = has_loss k p (inside 0 p (omega arith)) in
      let sum : HasSum k a (p ∷ ps) a = sums k (p ∷ ps) a a inside path in
      let counts = weight_is net (own k).time (own k).tokens (p ∷ ps) in
      let below = here.is.below in
      round_amount r.time r.tokens (slower k) (own k).time (own k).tokens sum.all (time_of net (p ∷ ps)) (tokens_of net (p ∷ ps)) (loss_of_path losses (p ∷ ps)) (omega arith)
      (round_lost sum.all ((own k).time * tokens_of net (p ∷ ps)) ((own k).tokens * time_of net (p ∷ ps))
      (reduced_time_of net (own k).time (own k).tokens (p ∷ ps)) (value k a) sum.is counts) sum.amount

  -- no closed path is above the ratio
  pub at_most : (ps : List PlaceId) (a : ℕ) → 0 < length ps → IsPathBetween net a ps a → time_of net ps * r.tokens ≤ r.time * tokens_of net ps
  at_most [] a some path = absurd (omega arith)
  at_most (p ∷ ps) a some path =
      let k : ℕ = slice_index parts a in
      let inside = closed_inside net ok answer h p ps a path in
      let here : HasLoss k p = has_loss k p (inside 0 p (omega arith)) in
      let is = round_is k p ps a inside path in
      let tokens = here.is.some in
      le_of_mul-le-mul_left {m = time_of net (p ∷ ps) * r.tokens} {n = r.time * tokens_of net (p ∷ ps)} {k = (own k).tokens} (omega arith) (omega arith)

  -- so a circuit that has the ratio shows that it is the greatest
  pub greatest : 1 ≤ r.tokens → (ps : List PlaceId) → IsCircuit net ps → 1 ≤ tokens_of net ps → time_of net ps * r.tokens ≡ r.time * tokens_of net ps → IsGreatestRatio net IsAnyPlace r
  greatest some ps c token e = record { some = some; attained = (ps, c, any_places ps, e); token = token; greatest = λ qs d all. at_most qs d.closed.0 d.not_empty d.closed.1 }

  -- a path of a part is told losses
  pub is_way : (k : ℕ) (ps : List PlaceId) (s t : ℕ) → All (IsPlaceOfPart net parts k) ps → IsPathBetween net s ps t → IsWay net losses s ps t
  is_way k ps s t inside path = record { path = path; along = λ i d l. (let here : HasLoss k (get_or ps i d) = has_loss k (get_or ps i d) (inside i d l) in ap is_some here.told) }
