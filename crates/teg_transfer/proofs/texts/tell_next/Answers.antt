use Rattle.std.proofs.Common.{◌<◌, length, sym, subst}
use Rattle.teg_net.specs.declared.entries.TransitionId.{TransitionId}
use Rattle.teg_report.specs.AnswerMeanings.{times_from}
use Rattle.teg_settle.proofs.walk_times_proofs.Walking.{input_within}
use Rattle.teg_transfer.proofs.Transferred.{times_within}
use Rattle.teg_transfer.proofs.TransferTexts.{times_more}
use Rattle.teg_transfer.proofs.texts.tell_next.Goals.{then-next+then-is_asked_again+in_ok-keep, else-next}
use Rattle.teg_transfer.proofs.texts.tell_next.Goals as goal

pub push_times-requires : goal.push_times-requires
push_times-requires c =
    let net = c.args.net.now in
    let ok = c.in_ok-next.ensures in
    let within = input_within net c.args.input.index c.requires.input in
    rw c.net-held.ensures.net
    (times_within net c.args.asked.now.limit (times_from c.in_ok-next.next.0) (subst (λ (t : TransitionId). t.index < length net.transitions) (sym ok.from) within) ok.times)

pub is_asked_again-requires-clause-input : goal.is_asked_again-requires-clause-input
is_asked_again-requires-clause-input c = rw c.net-held.ensures.net (input_within c.args.net.now c.args.input.index c.requires.input)

pub returns-clause-kept : goal.returns-clause-kept
returns-clause-kept c =
    let net = c.args.net.now in
    let limit = c.args.asked.now.limit in
    let ok = c.in_ok-next.ensures in
    elim c.if-next.branch [
      | then-next+then-is_asked_again+in_ok-keep w ↦
          rw w.told-is
          (times_more net limit c.args.input c.args.told.kept.items w.keep.new.list.items c.in_ok-next.next.0
          w.in_ok-keep.ensures c.requires.kept c.requires.input ok.from ok.times)
      | else-next w ↦ rw w.told-is c.requires.kept
    ]
