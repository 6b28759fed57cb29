use Rattle.std.proofs.Common.{◌≡◌, ◌∙◌, List, ◌++◌, ◌∷◌, [], ap, sym, subst}
use Rattle.std.specs.Prelude.{IfOk}
use Rattle.std.proofs.lemmas.Result.{IfOk-weaker}
use Rattle.teg_net.specs.declared.rounds.Round.{Round}
use Rattle.teg_howard.specs.declared.settling.RoundState.{RoundState}
use Rattle.policy_rounds.specs.PolicyRounds.{IsPolicyRun}
use Rattle.teg_howard.specs.RoundStates.{GoesOn, StaysAtLast}
use Rattle.policy_rounds.specs.RunAnswers.{IsAnswerOf, IsAnswerOfLast}
use Rattle.teg_howard.specs.PolicyRuns.{AllRise, RiseByCase}
use Rattle.teg_howard.proofs.Runs.{run_more, run_all, rise_more, last_answers, last_keeps, last_pushed}
use Rattle.teg_howard.proofs.Rising.{rise_by_case}
use Rattle.teg_howard.proofs.Ending.{falls}
use Rattle.teg_howard.proofs.iteration.policy_run.Goals as goal

pub rounds-smaller : goal.rounds-smaller
rounds-smaller c = falls c.args.net.now c.args.parts.now c.args.part c.rounds.at c.advance.new.at c.in-Some.before c.rounds.invariant.standing (rw c.in-Some.is at c.in_ok-before.ensures.some)

pub rounds-preserved : goal.rounds-preserved
rounds-preserved c =
    let old = c.rounds.at in
    let new = c.advance.new.at in
    let rounds = c.rounds.rounds.items in
    let goes : GoesOn c.args.net.now c.args.parts.now c.args.part old new c.in-Some.before = rw c.in-Some.is at c.in_ok-before.ensures.some in
    rw (c.in_ok-push.ensures.items, goes.before_is)
    (record {
      standing = goes.standing;
      run = run_more c.args.net.now c.args.parts.now c.args.part rounds old.state.round new.state.round c.rounds.invariant.run goes.follows;
      rises = rise_more c.args.net.now c.args.parts.now c.args.part rounds old.state.round new.state.round c.rounds.invariant.rises goes.rises;
    })

pub returns : goal.returns
returns c =
    let net = c.args.net.now in
    let parts = c.args.parts.now in
    let part = c.args.part in
    let at = c.rounds.at in
    let h = c.rounds.invariant in
    let before = c.rounds.rounds.items in
    let r = at.state.round in
    let end : StaysAtLast net parts part at c.advance.new.at = rw c.in_default.is at c.in_ok-before.ensures.none in
    let last : c.into_round.result ≡ r = c.into_round.ensures ∙ ap (λ (s : RoundState). s.round) end.same in
    let given : IfOk c.ended_run.result (λ w. IsAnswerOf r w.0 × (w.1.items ≡ before ++ r ∷ [])) =
    subst (λ (z : Round). IfOk c.ended_run.result (λ w. IsAnswerOf z w.0 × (w.1.items ≡ before ++ z ∷ []))) last c.ended_run.ensures in
    record {
      run = IfOk-weaker c.ended_run.result _ _ (λ w k. subst (λ (z : List Round). IsPolicyRun net parts part z) (sym k.1) (run_all net parts part before r h.run end.last)) given;
      best = IfOk-weaker c.ended_run.result _ _ (λ w k. last_answers net parts part at.policy.items at.state w.0 c.requires.live h.standing.standing end.last k.0) given;
      answer = IfOk-weaker c.ended_run.result _ _
          (λ w k. subst (λ (z : List Round). IsAnswerOfLast z w.0) (sym k.1) (λ d. last_pushed net parts part (λ s. IsAnswerOf s w.0) before r d k.0)) given;
      limits = IfOk-weaker c.ended_run.result _ _ (λ w k. last_keeps net parts part at.policy.items at.state w.0 h.standing.standing k.0) given;
      rises = IfOk-weaker c.ended_run.result _ _ (λ w k. subst (λ (z : List Round). AllRise z) (sym k.1) h.rises) given;
      cases = IfOk-weaker c.ended_run.result _ _
          (λ w k. subst (λ (z : List Round). RiseByCase net parts part z) (sym k.1) (rise_by_case net parts part c.requires.live (before ++ r ∷ []) h.run h.rises)) given;
    }
