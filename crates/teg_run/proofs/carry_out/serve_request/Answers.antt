use Rattle.std.proofs.Common.{[]}
use Rattle.teg_net_commands.specs.Calc.{SaysCalc}
use Rattle.teg_pace_commands.specs.Trial.{SaysTrial}
use Rattle.teg_plan_commands.proofs.Replayed.{nothing_shown}
use Rattle.teg_request.specs.declared.request.Request.TheVariants.{OfNet, ValueOf, TrialOf}
use Rattle.teg_run.specs.ShownFirings.{Shows}
use Rattle.teg_run.proofs.Answering.{closed_with}
use Rattle.teg_run.proofs.Showing.{serves_with}
use Rattle.teg_run.proofs.carry_out.serve_request.Goals as goal

pub returns-in-OfNet : goal.returns-in-OfNet
returns-in-OfNet g c =
    rw c.in-OfNet.is (serves_with _ (Shows (OfNet c.in-OfNet.command c.in-OfNet.net) _ _) _ _ _ _ _ _ (λ replies is_told. nothing_shown _)
    (rw c.as_str.ensures at c.serve_net.ensures))

pub returns-in-OfFiles : goal.returns-in-OfFiles
returns-in-OfFiles g c = rw c.in-OfFiles.is (_, rw c.as_str-in-OfFiles.ensures at c.answer_files-ending.ensures, c.finish.ensures)

pub returns-in-ValueOf : goal.returns-in-ValueOf
returns-in-ValueOf g c =
    rw c.in-ValueOf.is (serves_with _ (Shows (ValueOf c.in-ValueOf.expression) _ _) _ _ _ _ _ _ (λ replies is_told. nothing_shown _)
    (_, closed_with (SaysCalc c.in-ValueOf.expression) [] _ _ _ c.closed.ensures c.tell_calc.ensures, c.finish-in-ValueOf.ensures))

pub returns-in-TrialOf : goal.returns-in-TrialOf
returns-in-TrialOf g c =
    rw c.in-TrialOf.is (serves_with _ (Shows (TrialOf c.in-TrialOf.machines) _ _) _ _ _ _ _ _ (λ replies is_told. nothing_shown _)
    (_, closed_with (SaysTrial c.in-TrialOf.machines) [] _ _ _ c.closed-in-TrialOf.ensures c.tell_trial.ensures, c.finish-in-TrialOf.ensures))
