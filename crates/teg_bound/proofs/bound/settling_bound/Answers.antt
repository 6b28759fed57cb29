use Rattle.std.proofs.Common.{sym, ◌∙◌, arith}
use Rattle.std.proofs.lemmas.Bool.{iff_false}
use Rattle.teg_check.proofs.Liveness.{ranking_is_live}
use Rattle.teg_bound.proofs.Causes.{no_places, alone, ready_at_zero}
use Rattle.teg_bound.proofs.Inputs.{input_is_some}
use Rattle.teg_bound.proofs.Keeping.{keeps}
use Rattle.teg_bound.proofs.Strong.{one_part, two_parts, some_best, tells_best, best_is}
use Rattle.teg_bound.proofs.bound.settling_bound.Goals as goal

pub returns-then-is_empty : goal.returns-then-is_empty
returns-then-is_empty c =
    let net = c.args.net.now in
    let none = iff_false c.has_input.ensures c.if-has_input.false in
    (λ t h. none (input_is_some net t h), no_places net.places c.places.result.now c.places.ensures.value (sym c.is_empty.ensures ∙ c.if-is_empty.true))

pub returns-then-count-gt1 : goal.returns-then-count-gt1
returns-then-count-gt1 c =
    let net = c.args.net.now in
    let none = iff_false c.has_input.ensures c.if-has_input.false in
    let places = alone net c.places.result.now none c.places.ensures.value (sym c.is_empty.ensures ∙ c.if-is_empty.false) in
    (places, two_parts net c.args.parts.now c.requires.parts (omega arith))

pub returns-then-has_late_token : goal.returns-then-has_late_token
returns-then-has_late_token c =
    let net = c.args.net.now in
    let none = iff_false c.has_input.ensures c.if-has_input.false in
    let places = alone net c.places.result.now none c.places.ensures.value (sym c.is_empty.ensures ∙ c.if-is_empty.false) in
    let each = one_part net c.args.parts.now c.requires.parts (omega arith) in
    (places, each, c.has_late_token.ensures.0 c.if-has_late_token.true)

pub unreachable-requires : goal.unreachable-requires
unreachable-requires c =
    let net = c.args.net.now in
    let none = iff_false c.has_input.ensures c.if-has_input.false in
    let places = alone net c.places.result.now none c.places.ensures.value (sym c.is_empty.ensures ∙ c.if-is_empty.false) in
    let each = one_part net c.args.parts.now c.requires.parts (omega arith) in
    some_best net c.args.answer.now c.places.ensures.rules c.requires.certificate each places.some_place (sym c.best_ratio.ensures ∙ c.in_default.is)

pub bound_number-requires : goal.bound_number-requires
bound_number-requires c =
    let net = c.args.net.now in
    let none = iff_false c.has_input.ensures c.if-has_input.false in
    let places = alone net c.places.result.now none c.places.ensures.value (sym c.is_empty.ensures ∙ c.if-is_empty.false) in
    let live = ranking_is_live net c.args._live.now c.requires.live in
    let best = best_is net c.args.answer.now c.in-Some.ratio c.places.ensures.rules live c.requires.certificate
    (tells_best c.args.answer.now c.in-Some.ratio (sym c.best_ratio.ensures ∙ c.in-Some.is)) in
    record { place = places.some_place; time = best.small.0; tokens = best.small.1 }

pub returns : goal.returns
returns c =
    let net = c.args.net.now in
    let r = c.in-Some.ratio in
    let rules = c.places.ensures.rules in
    let none = iff_false c.has_input.ensures c.if-has_input.false in
    let places = alone net c.places.result.now none c.places.ensures.value (sym c.is_empty.ensures ∙ c.if-is_empty.false) in
    let live = ranking_is_live net c.args._live.now c.requires.live in
    let each = one_part net c.args.parts.now c.requires.parts (omega arith) in
    let ready = ready_at_zero net (iff_false c.has_late_token.ensures c.if-has_late_token.false) in
    let best = best_is net c.args.answer.now r rules live c.requires.certificate (tells_best c.args.answer.now r (sym c.best_ratio.ensures ∙ c.in-Some.is)) in
    let is = c.bound_number.ensures.number in
    record {
      alone = places;
      strong = each;
      ready = ready;
      ratio = r;
      greatest = best.greatest;
      terms = best.terms;
      number_is = is;
      small = c.bound_number.ensures.small;
      keeps = keeps net r (record { rules = rules; live = live; no_input = places.no_input; each = each; ready = ready; ratio = best.greatest }) c.bound_number.result is;
    }
