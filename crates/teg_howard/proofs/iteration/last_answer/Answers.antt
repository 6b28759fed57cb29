use Rattle.std.proofs.Common.{◌≡◌, ◌∙◌, ◌++◌, ◌∷◌, [], ap, subst}
use Rattle.teg_net.specs.declared.rounds.Round.{Round}
use Rattle.teg_howard.specs.declared.settling.RoundState.{RoundState}
use Rattle.teg_howard.specs.RoundStates.{GoesOn, StaysAtLast}
use Rattle.policy_rounds.specs.RunAnswers.{IsAnswerOf}
use Rattle.teg_howard.proofs.Runs.{run_one, run_more, run_all, last_answers, last_keeps, last_pushed}
use Rattle.teg_howard.proofs.Ending.{falls}
use Rattle.teg_howard.proofs.iteration.last_answer.Goals as goal

pub rounds-init : goal.rounds-init
rounds-init c = record { standing = c.in_ok-at.ensures.standing; run = ([], run_one c.args.net.now c.args.parts.now c.args.part c.in_ok-at.at.state.round c.in_ok-at.ensures.first) }

pub rounds-smaller : goal.rounds-smaller
rounds-smaller c = falls c.args.net.now c.args.parts.now c.args.part c.rounds.at c.advance.new.at c.in-Some._before c.rounds.invariant.standing (rw c.in-Some.is at c.in_ok-_before.ensures.some)

pub rounds-preserved : goal.rounds-preserved
rounds-preserved c =
    let old = c.rounds.at in
    let new = c.advance.new.at in
    let run = c.rounds.invariant.run in
    let goes : GoesOn c.args.net.now c.args.parts.now c.args.part old new c.in-Some._before = rw c.in-Some.is at c.in_ok-_before.ensures.some in
    record { standing = goes.standing; run = (run.0 ++ old.state.round ∷ [], run_more c.args.net.now c.args.parts.now c.args.part run.0 old.state.round new.state.round run.1 goes.follows) }

pub returns : goal.returns
returns c =
    let net = c.args.net.now in
    let parts = c.args.parts.now in
    let part = c.args.part in
    let at = c.rounds.at in
    let h = c.rounds.invariant in
    let r = at.state.round in
    let end : StaysAtLast net parts part at c.advance.new.at = rw c.in_default.is at c.in_ok-_before.ensures.none in
    let last : c.into_round-round.result ≡ r = c.into_round-round.ensures ∙ ap (λ (s : RoundState). s.round) end.same in
    let is : IsAnswerOf r c.in_ok-answer.answer = subst (λ (z : Round). IsAnswerOf z c.in_ok-answer.answer) last c.in_ok-answer.ensures in
    record {
      best = last_answers net parts part at.policy.items at.state c.in_ok-answer.answer c.requires.live h.standing.standing end.last is;
      run = (
        h.run.0 ++ r ∷ [],
        run_all net parts part h.run.0 r h.run.1 end.last,
        λ d. last_pushed net parts part (λ s. IsAnswerOf s c.in_ok-answer.answer) h.run.0 r d is,
      );
      limits = last_keeps net parts part at.policy.items at.state c.in_ok-answer.answer h.standing.standing is;
    }
