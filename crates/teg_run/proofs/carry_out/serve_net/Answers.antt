use Rattle.std.proofs.Common.{[]}
use Rattle.teg_net.specs.Nets.{NetLists}
use Rattle.teg_report.specs.declared.answer.Which.TheVariants.{Net as NetFile}
use Rattle.teg_files.specs.Endings.{Whole, Lost, ending_of}
use Rattle.teg_files.specs.Openings.{OpensNet}
use Rattle.teg_run.specs.Says.{SaysNet, SaysOutcome}
use Rattle.teg_run.proofs.Answering.{lost_at, after_net, refused_at, accepted_at, came_to}
use Rattle.teg_run.proofs.carry_out.serve_net.Goals as goal

pub returns-in-Refused : goal.returns-in-Refused
returns-in-Refused g c =
    (Whole c.in-Refused.status c.in-Refused.text.items, refused_at OpensNet (λ file. SaysOutcome (SaysNet c.args.command file)) NetFile _ [] _ _ _ _ c.in-Refused.ensures, c.finish.ensures)

pub returns-in-Accepted : goal.returns-in-Accepted
returns-in-Accepted g c =
    let told = c.write_answer.ensures in (
      ending_of told.0,
      accepted_at OpensNet (λ file. SaysOutcome (SaysNet c.args.command file)) NetFile _ _ [] _ _ _ _
          (λ reply replies opens reads. after_net reply _ replies opens) c.in-Accepted.ensures (came_to _ [] _ told.0 told.1),
      told.2,
    )

pub returns-in-Lost : goal.returns-in-Lost
returns-in-Lost g c = (Lost, lost_at NetLists NetFile _ [] _ _ c.in-Lost.ensures, c.finish-in-Lost.ensures)
