use Rattle.std.proofs.Common.{rules, arith}
use Rattle.std.proofs.lemmas.Bool.{iff_false}
use Rattle.bound_check.specs.Formulas.{StandsAlone}
use Rattle.bound_check.proofs.Parts.{each_reaches_each, lacks_path}
use Rattle.bound_check.proofs.cause.cause_of.Goals as goal

pub returns-then-count-gt1-clause-cause : goal.returns-then-count-gt1-clause-cause
returns-then-count-gt1-clause-cause c =
    let alone : StandsAlone c.args.net.now = search rules in
    (alone, lacks_path c.args.net.now c.args.parts.now c.requires (omega arith))

pub returns-then-has_late_token-clause-cause : goal.returns-then-has_late_token-clause-cause
returns-then-has_late_token-clause-cause c =
    let alone : StandsAlone c.args.net.now = search rules in
    (alone, each_reaches_each c.args.net.now c.args.parts.now c.requires (omega arith), c.has_late_token.ensures.0 c.if-has_late_token.true)

pub returns-clause-none : goal.returns-clause-none
returns-clause-none c =
    let alone : StandsAlone c.args.net.now = search rules in
    record {
      alone = alone;
      strong = each_reaches_each c.args.net.now c.args.parts.now c.requires (omega arith);
      ready = iff_false c.has_late_token.ensures c.if-has_late_token.false;
    }
