-- What the least loss of the paths back tells of a place.
use Rattle.std.proofs.Common.{ℕ, suc, ◌+◌, ◌-◌, ◌*◌, ◌/◌, ◌<◌, ◌≤◌, ◌≡◌, List, ◌∷◌, length, Option, Some, None, refl, sym, ap, subst, ◌∙◌, arith}
use Rattle.std.specs.Prelude.{All, IfNone, IfSome}
use Rattle.std.proofs.lemmas.List.Sums.{sum_by-cons}
use Rattle.std.proofs.Math.Nat.{mul-le-mul_left, mul-le-mul_right, le_of_mul-le-mul_left, mul-div_cancel_left}
use Rattle.teg_net.specs.declared.entries.PlaceId.{PlaceId}
use Rattle.teg_net.specs.Limits.{most_place_tokens, most_transitions}
use Rattle.teg_net.specs.Nets.{NetLists, IsNet, IsPlaceOf}
use Rattle.teg_net.specs.Ratios.{Fraction}
use Rattle.teg_net.specs.Circuits.{no_place, place_at, from_of, IsPathBetween, time_of, tokens_of}
use Rattle.teg_net.specs.Parts.{to_of, IsPlaceOfPart}
use Rattle.teg_net.proofs.NetRules.{net_ends}
use Rattle.teg_loops.specs.Loops.{IsStraight}
use Rattle.teg_loops.proofs.Ends.{ends_below}
use Rattle.teg_loops.proofs.Straight.{straight_short}
use Rattle.teg_loops.proofs.Taking.{sum_most}
use Rattle.teg_loops.proofs.Splitting.{split}
use Rattle.teg_loops.proofs.Through.{IsThrough, through, pass_back}
use Rattle.teg_critical.proofs.Certified.{path_inside}
use Rattle.teg_critical.specs.declared.losses.Loss.{Loss}
use Rattle.teg_critical.specs.declared.slacks.Slack.{Slack}
use Rattle.teg_critical.specs.declared.slacks.Slack.TheVariants.{NoCircuit, Critical, Rise}
use Rattle.teg_critical.specs.Slacks.{IsOnCircuit, IsSlack, IsSlackOf}
use Rattle.teg_critical.specs.Gaps.{IsGap}
use Rattle.teg_critical.specs.SlackAndPaths.{GapTells}
use Rattle.teg_critical.specs.Losses.{most_gap, part_of_transition, loss_at, LeavesGap}
use Rattle.teg_critical.specs.LeastLosses.{amount_in, loss_of_path, IsWay, IsLeastLoss}
use Rattle.teg_critical.specs.Told.{CanTellSlack, IsSlackOfGap, IsGapWithin}
use Rattle.teg_critical.proofs.GapLaws.{gaps_tell}
use Rattle.teg_critical.proofs.Rounds.{HasLoss, has_loss, round_is, is_way}

apart_some : (o : Option Loss) (l : Loss) → o ≡ None → o ≡ Some l → ⊥
apart_some o l e f = cc

same_loss : (o : Option Loss) (l m : Loss) → o ≡ Some l → o ≡ Some m → l ≡ m
same_loss o l m e f = (let h : Some l ≡ Some m = sym e ∙ f in cc)

module _ (net : NetLists) (ok : IsNet net) (r : Fraction) (losses : List (Option Loss)) (can : CanTellSlack net r losses) (p : PlaceId) (l : p.index < length net.places) where
  abbrev own_part : ℕ
  own_part = part_of_transition can.answer (from_of net p)

  back_path : (ps : List PlaceId) → IsPathBetween net (to_of net p) ps (from_of net p) → IsPathBetween net (from_of net p) (p ∷ ps) (from_of net p)
  back_path ps path = (l, refl, path)

  -- the whole round lies in one part
  round_inside : (ps : List PlaceId) → IsPathBetween net (to_of net p) ps (from_of net p) → All (IsPlaceOfPart net can.answer.part_of.items own_part) (p ∷ ps)
  round_inside ps path = path_inside net ok can.answer can.certificate own_part (p ∷ ps) (from_of net p) (from_of net p) refl refl (back_path ps path)

  own_loss : (ps : List PlaceId) → IsPathBetween net (to_of net p) ps (from_of net p) → HasLoss net ok can.answer can.certificate r losses can.lost own_part p
  own_loss ps path = has_loss net ok can.answer can.certificate r losses can.lost own_part p (round_inside ps path 0 p (omega arith))

  back_way : (ps : List PlaceId) → IsPathBetween net (to_of net p) ps (from_of net p) → IsWay net losses (to_of net p) ps (from_of net p)
  back_way ps path = is_way net ok can.answer can.certificate r losses can.lost own_part ps (to_of net p) (from_of net p) (λ i d m. round_inside ps path (suc i) d (omega arith)) path

  -- a place of two parts, or without a path back, is on no circuit
  pub none_of : loss_at losses p ≡ None → IsOnCircuit net p → ⊥
  none_of e c =
      let t : IsThrough net p c.0 = through net p c.0 c.1 c.2 in
      let own = own_loss t.others t.path in
      apart_some (loss_at losses p) own.loss e own.told

  pub none_back : IsLeastLoss net losses (to_of net p) (from_of net p) None → IsOnCircuit net p → ⊥
  none_back e c = let t : IsThrough net p c.0 = through net p c.0 c.1 c.2 in e t.others (back_way t.others t.path)

  -- the least that paths back lose tells the gap
  module _ (loss : Loss) (told : loss_at losses p ≡ Some loss) (rest : ℕ) (back : IsLeastLoss net losses (to_of net p) (from_of net p) (Some rest)) where
    abbrev best : List PlaceId
    best = back.0.0

    best_path : IsPathBetween net (to_of net p) best (from_of net p)
    best_path = back.0.1.path

    -- the amounts of a round
    round_of : (ps : List PlaceId) → IsPathBetween net (to_of net p) ps (from_of net p)
        → (loss.amount + loss_of_path losses ps) + loss.scale * (time_of net (p ∷ ps) * r.tokens) ≡ loss.scale * (r.time * tokens_of net (p ∷ ps))
    round_of ps path =
        let own = own_loss ps path in
        let same : own.loss ≡ loss = same_loss (loss_at losses p) own.loss loss own.told told in
        let scale = sym own.is.scale ∙ ap (λ (z : Loss). z.scale) same in
        let round = round_is net ok can.answer can.certificate r losses can.lost own_part p ps (from_of net p) (round_inside ps path) (back_path ps path) in
        let amount : amount_in (loss_at losses p) ≡ loss.amount = ap amount_in told in
        let more = sum_by-cons (λ q. amount_in (loss_at losses q)) p ps in
        let sum : loss_of_path losses (p ∷ ps) ≡ loss.amount + loss_of_path losses ps = more ∙ ap (λ (z : ℕ). z + loss_of_path losses ps) amount in
        rw (sum, scale) at round

    pub some_scale : 1 ≤ loss.scale
    some_scale =
        let own = own_loss best best_path in
        let same : own.loss ≡ loss = same_loss (loss_at losses p) own.loss loss own.told told in
        let some = own.is.some in
        let scale = own.is.scale in
        subst (λ (z : Loss). 1 ≤ z.scale) same (omega arith)

    pub gap : ℕ
    gap = r.time * tokens_of net (p ∷ best) - time_of net (p ∷ best) * r.tokens

    at_most_best : time_of net (p ∷ best) * r.tokens ≤ r.time * tokens_of net (p ∷ best)
    at_most_best =
        let round = round_of best best_path in
        let some = some_scale in
        le_of_mul-le-mul_left {m = time_of net (p ∷ best) * r.tokens} {n = r.time * tokens_of net (p ∷ best)} {k = loss.scale} (omega arith) (omega arith)

    gap_is : time_of net (p ∷ best) * r.tokens + gap ≡ r.time * tokens_of net (p ∷ best)
    unfolding gap
    gap_is = let most = at_most_best in omega arith

    spread : (s x y : ℕ) → s * (x + y) ≡ s * x + s * y
    spread s x y = grind arith

    pub total_is : loss.amount + rest ≡ loss.scale * gap
    total_is =
        let round = round_of best best_path in
        let sum : loss_of_path losses best ≡ rest = back.0.2 in
        let whole : loss.scale * (time_of net (p ∷ best) * r.tokens + gap) ≡ loss.scale * (r.time * tokens_of net (p ∷ best)) = ap (λ (z : ℕ). loss.scale * z) gap_is in
        let parts = spread loss.scale (time_of net (p ∷ best) * r.tokens) gap in
        omega arith

    pub is_gap : IsGap net r p gap
    is_gap = record {
      attained = (best, best_path, gap_is);
      least = λ ps path.
          let round = round_of ps path in
          let low : rest ≤ loss_of_path losses ps = back.1 ps (back_way ps path) in
          let is = total_is in
          let parts = spread loss.scale (time_of net (p ∷ ps) * r.tokens) gap in
          let some = some_scale in
          le_of_mul-le-mul_left {m = time_of net (p ∷ ps) * r.tokens + gap} {n = r.time * tokens_of net (p ∷ ps)} {k = loss.scale} (omega arith) (omega arith);
    }

    -- a straight path back shows that the gap is not great
    pub gap_low : gap ≤ most_gap
    gap_low =
        let ends = ends_below net (net_ends net ok) in
        let s = split net best (to_of net p) (from_of net p) best_path in
        let straight : IsStraight net (to_of net p) s.0 (from_of net p) = s.2.path in
        let rules : IsPlaceOf net (place_at net p) = ok.each_place p.index no_place l in
        let short : length s.0 < length net.transitions = straight_short net (length net.transitions) s.0 (to_of net p) (from_of net p) ends rules.from_in straight in
        let few = ok.few_transitions in
        let each = sum_most (λ q. (place_at net q).tokens) most_place_tokens net
        (λ id m. (let own : IsPlaceOf net (place_at net id) = ok.each_place id.index no_place m in own.tokens_in)) (p ∷ s.0)
        (from_of net p) (from_of net p) (back_path s.0 straight.path) in
        let long : length (p ∷ s.0) * most_place_tokens ≤ most_transitions * most_place_tokens = mul-le-mul_right {m = length (p ∷ s.0)} {n = most_transitions} most_place_tokens (omega arith) in
        let low = is_gap.least s.0 straight.path in
        let most : r.time * tokens_of net (p ∷ s.0) ≤ r.time * 400000 = mul-le-mul_left {m = tokens_of net (p ∷ s.0)} {n = 400000} r.time (omega arith) in
        let small = can.small.time_in in
        omega arith

    pub leaves : LeavesGap (loss.amount + rest) loss.scale
    leaves = record { gap = gap; some = some_scale; is = total_is; low = gap_low }

    quotient : (loss.amount + rest) / loss.scale ≡ gap
    quotient = ap (λ (z : ℕ). z / loss.scale) total_is ∙ mul-div_cancel_left gap {n = loss.scale} (let some = some_scale in omega arith)

    -- the gap is what the total is over the scale
    pub gap_within : IsGapWithin net r p ((loss.amount + rest) / loss.scale)
    gap_within = subst (IsGapWithin net r p) (sym quotient) (record { is = is_gap; low = gap_low })

  -- what the gap tells is the slack
  pub tells_slack :
      (gap : Option ℕ) → IfNone gap (IsOnCircuit net p → ⊥) → IfSome gap (IsGapWithin net r p)
      → (s : Slack) → IsSlackOfGap gap r s → IsSlackOf net r p s
  tells_slack None none some s h = subst (IsSlackOf net r p) (sym h) none
  tells_slack (Some gap) none some NoCircuit h = absurd h
  tells_slack (Some gap) none some Critical h = (gaps_tell net r p gap can.greatest l some.is).critical.0 h
  tells_slack (Some gap) none some (Rise by) h =
      let is : IsGap net r p gap = some.is in
      let tells : GapTells net r p gap = gaps_tell net r p gap can.greatest l is in (
        (pass_back net p l).1 (is.attained.0, is.attained.1),
        λ c. (let some = h.0 in let none = tells.critical.1 c in omega arith),
        subst (λ (z : ℕ). IsSlack net r p z) (sym h.1) (tells.slack h.0),
      )
