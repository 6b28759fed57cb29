use Rattle.std.proofs.Common.{ℕ, List}
use Rattle.teg_net.specs.Nets.{NetLists}
use Rattle.audit_calls.specs.declared.finding.Finding.TheVariants.{NotShown}
use Rattle.audit_calls.specs.declared.kinds.Searched.{Searched}
use Rattle.audit_calls.specs.declared.kinds.Searched.TheVariants.{Rounds, Settled, Bound}
use Rattle.answer_audit.specs.AnswerFindings.{IsFoundSearched}
use Rattle.answer_audit.proofs.searched.searched_finding.Goals as goal

none_found : (net : NetLists) (kind : Searched) (text : List ℕ) → IsFoundSearched net kind text NotShown
none_found net Rounds text = tt
none_found net Settled text = tt
none_found net Bound text = tt

pub returns-then-not-branch : goal.returns-then-not-branch
returns-then-not-branch c = none_found c.args.net.now c.args.kind c.args.text.now
