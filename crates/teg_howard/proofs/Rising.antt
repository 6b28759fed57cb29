-- What rises from round to round, case by case.
use Rattle.std.proofs.Common.{ℕ, ◌+◌, ◌*◌, ◌<◌, List, length, get_or, subst, arith, ⊎_elim}
use Rattle.teg_net.specs.Nets.{NetLists}
use Rattle.teg_net.specs.Circuits.{IsLive, time_of, tokens_of}
use Rattle.teg_net.specs.declared.rounds.Round.{Round}
use Rattle.policy_rounds.specs.PolicyRounds.{chosen, potential, IsRound, IsRunTo}
use Rattle.teg_howard.specs.PolicyRuns.{RisesInSum, PairRises, AllRise, RisesByCase, RiseByCase}
use Rattle.policy_rounds.proofs.Turns.{greater_ratio}
use Rattle.policy_rounds.proofs.Optimum.{some_token}
use Rattle.policy_rounds.proofs.OneRun.{each_round}
use Rattle.teg_howard.proofs.RoundStates.{ratio_less}

module _ (net : NetLists) (parts : List ℕ) (part : ℕ) where
  rises_by_case : (live : IsLive net) (r s : Round) → IsRound net parts part r → IsRound net parts part s → PairRises r s → RisesByCase net parts part r s
  rises_by_case live r s hr hs up = record {
    anew = λ better imp w.
        let d = s.circuit.places.items in
        let gain = greater_ratio net parts part (chosen r) hr.policy r.ratio.time r.ratio.tokens r.circuit.places.items hr.circuit
        hr.ratio.same (potential r) hr.sums better imp d w.best.is w.best.through in
        ratio_less r.ratio.time r.ratio.tokens s.ratio.time s.ratio.tokens (time_of net d) (tokens_of net d) hs.ratio.terms.some (some_token net live d w.best.is.circuit) gain hs.ratio.same;
    kept = λ better k.
        ⊎_elim
        (λ (l : r.ratio.time * s.ratio.tokens < s.ratio.time * r.ratio.tokens).
        let same : r.ratio.time * r.ratio.tokens < r.ratio.time * r.ratio.tokens = subst (λ x. r.ratio.time * x.tokens < x.time * r.ratio.tokens) k.same_ratio l in
        absurd (omega arith))
        (λ (e : RisesInSum r s). e)
        up;
  }

  pub rise_by_case : (live : IsLive net) (rounds : List Round) → IsRunTo net parts part rounds → AllRise rounds → RiseByCase net parts part rounds
  rise_by_case live rounds run up k d l =
      rises_by_case live (get_or rounds k d) (get_or rounds (k + 1) d) (each_round net parts part rounds run k d (omega (arith, l))) (each_round net parts part rounds run (k + 1) d l) (up k d l)
