use Rattle.std.proofs.Common.{[], ◌∷◌, arith}
use Rattle.teg_net.specs.ReadyDates.{start_date}
use Rattle.due_laws.specs.LatestDates.{IsLateWalk}
use Rattle.teg_due.specs.declared.rows.DueRow.{DueRow}
use Rattle.teg_due.specs.RowRules.{due_in}
use Rattle.teg_jit.specs.DueDates.{NamesFiring}
use Rattle.teg_jit.specs.Plans.{KeepsSizes, dates_of_plan}
use Rattle.teg_jit.specs.FirstLate.{IsAtStart, StartsAreKept}
use Rattle.teg_due.proofs.DueOnce.{no_row}
use Rattle.teg_jit.proofs.LateWalks.{one_meets, starts_are_kept, start_is_there, tight_is_late, some_by, ok_map}
use Rattle.teg_jit.proofs.late.late_walk.Goals as goal

pub first_at_start-requires-clause-kept : goal.first_at_start-requires-clause-kept
first_at_start-requires-clause-kept c =
    let r : DueRow = c.args.row in
    let x = c.requires.least in
    let meets = one_meets c.args.net.now r x.0 x.1 x.2 in
    starts_are_kept c.args.net.now (due_in (r ∷ [])) meets.0 c.in_ok-plan.plan c.in_ok-plan.ensures.rules c.in_ok-plan.ensures.plan meets.1 meets.2

pub unwrap-number-requires : goal.unwrap-number-requires
unwrap-number-requires c =
    let net = c.args.net.now in
    let r : DueRow = c.args.row in
    let x = c.requires.least in
    let meets = one_meets net r x.0 x.1 x.2 in
    let ok = c.in_ok-plan.ensures.rules in
    let names : NamesFiring net r = c.requires.listed.due.each 0 no_row (omega arith) in
    let is : KeepsSizes c.in_ok-plan.plan = rw c.plan.view_is at c.plan.invariant in
    let kept : StartsAreKept net c.in_ok-plan.plan = starts_are_kept net (due_in (r ∷ [])) meets.0 c.in_ok-plan.plan ok c.in_ok-plan.ensures.plan meets.1 meets.2 in
    some_by c.first_at_start.result c.first_at_start.ensures.none (start_is_there net r x.0 c.in_ok-plan.plan ok is c.in_ok-plan.ensures.plan names x.1 x.2 kept)

pub returns : goal.returns
returns c =
    let net = c.args.net.now in
    let r : DueRow = c.args.row in
    let at : IsAtStart net c.in_ok-plan.plan c.unwrap-number.result.0.index c.unwrap-number.result.1 = rw c.unwrap-number.ensures at c.first_at_start.ensures.some in
    ok_map c.walk.result (λ w. IsLateWalk net r.transition.index r.number (start_date net w.start.index w.number) r.date w) c.walk.ensures.tight
    (λ w tight. tight_is_late net r c.unwrap-number.result.0.index c.unwrap-number.result.1
    (dates_of_plan c.in_ok-plan.plan c.unwrap-number.result.0.index c.unwrap-number.result.1) w at.is (tight (due_in (r ∷ [])) c.in_ok-plan.ensures.plan))
