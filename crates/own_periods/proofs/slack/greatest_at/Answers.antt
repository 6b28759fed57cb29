use Rattle.std.proofs.Common.{◌<◌, ◌≤◌, ◌≡◌, sym, ◌∙◌, arith, ⊎_elim}
use Rattle.std.proofs.lemmas.Bool.{cases_lt}
use Rattle.std.proofs.lemmas.Int.{ints}
use Rattle.own_periods.proofs.Rests.{next_rest, rest_on}
use Rattle.own_periods.proofs.slack.greatest_at.Goals as goal

pub rests-preserved : goal.rests-preserved
rests-preserved c =
    let old = c.rests.invariant in
    let at = c.rests.at in
    let apart = c.args.which.apart in
    let rest = c.args.which.rest_in in
    record {
      at_rest = rest_on at apart ∙ old.at_rest;
      best_in = ⊎_elim (λ e. rw e old.best_in) (λ e. rw e c.rests-test.true) c.greater-best.ensures.which;
      told = λ a l few same.
          ⊎_elim
          (λ (q : a < at). let before = old.told a q few same in let own = c.greater-best.ensures.first in omega (arith, ints, before, own))
          (λ (q : at ≤ a).
          let is : a ≡ at = next_rest a at apart (omega (arith, rest)) (same ∙ sym old.at_rest) q l in
          rw is c.greater-best.ensures.second)
          (cases_lt a at);
    }
