use Rattle.std.proofs.Common.{◌≡◌, All, length, subst, sym, arith}
use Rattle.std.proofs.lemmas.List.{take_all}
use Rattle.std.proofs.lemmas.Option.{slice_get_within}
use Rattle.teg_net.proofs.NetRules.{net_ends}
use Rattle.endless_due.specs.declared.row.EndlessRow.{EndlessRow}
use Rattle.forever_laws.specs.Late.{NoneLate}
use Rattle.teg_forever.specs.TogetherRows.{IsTold}
use Rattle.teg_forever.specs.LatestReleases.{ForeverRefused, IsLateAnswer}
use Rattle.teg_forever.proofs.AloneRows.{all_meet_in, late_answer_in}
use Rattle.teg_forever.proofs.Series.{some_is}
use Rattle.teg_forever.proofs.SearchedRows.{all_before}
use Rattle.teg_forever.proofs.answers.keep_rows_alone.Goals as goal

pub row-requires : goal.row-requires
row-requires c =
    let a = c.args.due.now in
    let told = subst (IsTold a.net a.rows) c.in-Late.is c.in_ok-first.ensures in
    slice_get_within a.rows _ told.late.row told.late.is_row

pub returns-in-Late-clause-late : goal.returns-in-Late-clause-late
returns-in-Late-clause-late c =
    let a = c.args.due.now in
    let given = c.net.ensures.given in
    let told = subst (IsTold a.net a.rows) c.in-Late.is c.in_ok-first.ensures in
    let zero = c.no_rows_are_met.ensures a.net (net_ends a.net given.rules) given.is_live in
    let l = c.in-Late.first.late in
    let same : c.row.result.now ≡ told.late.row = some_is _ _ _ c.row.ensures.stands told.late.is_row in
    subst (ForeverRefused a.net a.rows) (sym c.refused_at.ensures)
    (subst (λ (r : EndlessRow). IsLateAnswer a.net a.rows r.transition.index l.number l.due l.least) (sym same)
    (late_answer_in a given c.late_is_soon.ensures zero.0 zero.1 c.in-Late.first.place told.late.row told.late.is_row
    (all_before a.net a.rows c.in-Late.first.place (omega (arith, slice_get_within a.rows _ told.late.row told.late.is_row)) told.none zero.0 zero.1)
    l.number l.due l.least (told.late.least zero.0 zero.1)))

pub returns-in-None-clause-meet : goal.returns-in-None-clause-meet
returns-in-None-clause-meet c told =
    let a = c.args.due.now in
    let none = subst (IsTold a.net a.rows) c.in-None.is c.in_ok-first.ensures in
    all_meet_in a c.net.ensures.given c.no_rows_are_met.ensures c.zero_meets_where_none_late.ensures
    (λ x least. subst (All (NoneLate x)) (take_all (length a.rows) a.rows (omega arith)) (all_before a.net a.rows (length a.rows) (omega arith) none x least))
