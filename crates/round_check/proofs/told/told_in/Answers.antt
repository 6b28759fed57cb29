use Rattle.std.proofs.Common.{◌≡◌, ◌++◌, Some, sym, subst, rules}
use Rattle.std.specs.Prelude.{All}
use Rattle.teg_net.specs.GreatestRatios.{IsAnyPlace, IsGreatestRatio}
use Rattle.teg_certificates.specs.BestRatios.{best_ratio_of}
use Rattle.teg_text.specs.Lines.{written}
use Rattle.teg_lines.specs.CycleLines.{cycle_lines}
use Rattle.teg_lines.specs.CycleMeanings.{cycle_lists}
use Rattle.teg_lines.specs.RoundLines.{AreRunsTold, IsRunKept, runs_lines, told_runs}
use Rattle.pace_check.specs.ShownCycles.{IsShownTimes}
use Rattle.round_check.proofs.Telling.{lists_of}
use Rattle.round_check.proofs.told.told_in.Goals as goal

pub is_text_of-requires-clause-runs : goal.is_text_of-requires-clause-runs
is_text_of-requires-clause-runs c = rw c.deref-4.ensures.value (rw (c.deref-2.ensures.value, c.deref-3.ensures.value) at (c.are_runs_in.ensures c.if-not-are_runs_in.false))

pub returns : goal.returns
returns c =
    let net = c.args.net.now in
    let answer = c.in-Some-2.answer in
    let ratio = c.in-Some-best_ratio.ratio in
    let runs = c.in-Some.read.runs.items in
    let times : IsShownTimes net c.as_str.result.now answer = search rules in
    let best : best_ratio_of answer ≡ Some ratio = search rules in
    let same : times.greatest.0 ≡ ratio = cc (times.greatest.1, best) in
    let told = rw c.deref-4.ensures.value at (c.in_ok-is_whole.ensures.text c.if-not-is_whole.false) in
    let kept = rw c.deref-4.ensures.value at c.in_ok-is_whole.ensures.kept in
    let runs_in = rw (c.deref-2.ensures.value, c.deref-3.ensures.value) at (c.are_runs_in.ensures c.if-not-are_runs_in.false) in
    record {
      live = times.live;
      greatest = subst (IsGreatestRatio net IsAnyPlace) same times.greatest.2;
      best = best;
      strong = times.times.strong;
      parts = times.times.parts;
      few = rw c.deref.ensures.value at (c.are_few.ensures c.if-not-are_few.false);
      whole = record {
        certificate = times.times.certificate;
        named = (ratio, best);
        rounds = subst (AreRunsTold net (cycle_lists answer).parts) (sym (lists_of runs)) runs_in;
        kept = subst (All IsRunKept) (sym (lists_of runs)) kept;
        told = subst (λ l. c.args.text.now ≡ written (cycle_lines net (cycle_lists answer) ++ runs_lines net (told_runs (cycle_lists answer).parts (Some l)))) (sym (lists_of runs)) told;
      };
    }
