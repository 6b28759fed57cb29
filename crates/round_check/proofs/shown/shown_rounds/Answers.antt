use Rattle.std.proofs.Common.{rules, subst}
use Rattle.policy_rounds.specs.LastRounds.{rounds_of_runs}
use Rattle.teg_lines.specs.CycleMeanings.{cycle_lists}
use Rattle.teg_lines.specs.RoundLines.{AreRunsTold}
use Rattle.round_check.specs.ToldRounds.{IsTold}
use Rattle.round_check.proofs.Telling.{lists_of}
use Rattle.round_check.proofs.shown.shown_rounds.Goals as goal

pub first_other-requires-clause-told : goal.first_other-requires-clause-told
first_other-requires-clause-told c =
    let told = c.in-Some.told in
    let is : IsTold c.args.net.now c.args.text.now told = search rules in
    rw c.deref.ensures.value (subst (AreRunsTold c.args.net.now (cycle_lists told.answer).parts) (lists_of told.runs.items) is.whole.rounds)

pub returns : goal.returns
returns c =
    let told = c.in-Some.told in
    let is : IsTold c.args.net.now c.args.text.now told = search rules in
    let none = rw c.in-None.is at c.in_ok-first_other.ensures.none in
    record {
      live = is.live;
      greatest = is.greatest;
      rounds = (
        told.answer,
        rounds_of_runs told.runs.items,
        is.best,
        record {
          certificate = is.whole.certificate;
          strong = is.strong;
          parts = is.parts;
          limits = c.keep_limits.ensures c.if-not-keep_limits.false;
          runs_told = rw c.deref.ensures.value at none;
          kept = is.whole.kept;
          told = is.whole.told;
        },
      );
    }
