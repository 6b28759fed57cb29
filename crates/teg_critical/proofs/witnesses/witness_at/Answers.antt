use Rattle.std.proofs.Common.{subst, arith}
use Rattle.std.specs.Prelude.{IfSome}
use Rattle.teg_critical.specs.Told.{IsGapWithin}
use Rattle.teg_critical.proofs.EachPlace.{can_tell}
use Rattle.teg_critical.proofs.WitnessLaws.{can_raise}
use Rattle.teg_critical.proofs.witnesses.witness_at.Goals as goal

pub gap_from-requires-clause-can : goal.gap_from-requires-clause-can
gap_from-requires-clause-can c =
    rw c.deref.ensures.value
    (can_tell c.args.net.now c.start_of.ensures.rules c.args.answer.now c.requires.certificate c.requires.live c.args.best c.requires.best c.in_ok-losses.losses.items c.in_ok-losses.ensures)

pub gap_from-requires-clause-back : goal.gap_from-requires-clause-back
gap_from-requires-clause-back c =
    rw (c.deref.ensures.value, c.deref-2.ensures.value)
    ((rw c.deref.ensures.value at c.in_ok-back.ensures).each 0 (record { start = c.start_of.result; end = c.end_of.result; place = c.args.place }) (omega arith))

pub witness_by-requires : goal.witness_by-requires
witness_by-requires c =
    record {
      can = can_raise c.args.net.now c.start_of.ensures.rules c.args.answer.now c.requires.certificate c.requires.live c.args.best c.requires.best c.args.place c.requires.place c.in-Some.gap
          (subst (λ o. IfSome o (IsGapWithin c.args.net.now c.args.best c.args.place)) c.in-Some.is c.gap_from.ensures.some);
    }
