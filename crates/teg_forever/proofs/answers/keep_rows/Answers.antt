use Rattle.std.proofs.Common.{◌≡◌, ◌≤◌, ◌<◌, Option, All, length, get_or, refl, subst, sym}
use Rattle.std.specs.Prelude.{IfSome}
use Rattle.std.proofs.lemmas.List.{take_all}
use Rattle.forever_laws.specs.settled_laws.SettledForms.{settled_date}
use Rattle.teg_text.proofs.Listing.{all_items}
use Rattle.forever_laws.specs.Late.{NoneLate}
use Rattle.teg_forever.specs.declared.late.LateFiring.{LateFiring}
use Rattle.teg_forever.specs.LateFirings.{IsSoonLate}
use Rattle.teg_forever.specs.LatestReleases.{ForeverRefused}
use Rattle.teg_forever.proofs.LateTurns.{all_meet, late_answer, settled_at}
use Rattle.teg_forever.proofs.Residues.{none_of}
use Rattle.teg_forever.proofs.Series.{got}
use Rattle.teg_forever.proofs.answers.keep_rows.Goals as goal

pub new-requires : goal.new-requires
new-requires c =
    let a = c.args.due.now in
    let r = c.row-item.result in
    let i = c.loop-row.row-index in
    let within : i < length a.rows = rw c.rows-row-items.ensures.value at c.loop-row-test.true in
    let item : r ≡ get_or a.rows i r = rw c.rows-row-items.ensures.value at c.row-item.is in
    settled_at a c.rows-row-items.ensures.given c.args.settled.now c.zero_inputs_are_no_lists.ensures c.requires c.turns_tell_late.ensures.steps c.after.ensures.kept i r within item

pub returns-in-Some-clause-late : goal.returns-in-Some-clause-late
returns-in-Some-clause-late c =
    let a = c.args.due.now in
    let f = c.args.settled.now in
    let r = c.row-item.result in
    let i = c.loop-row.row-index in
    let late = c.in-Some.late in
    let within : i < length a.rows = rw c.rows-row-items.ensures.value at c.loop-row-test.true in
    let item : r ≡ get_or a.rows i r = rw c.rows-row-items.ensures.value at c.row-item.is in
    let some = rw c.new.ensures at c.in_ok-late.ensures.some in
    let soon : IsSoonLate f r late.number late.due late.least = subst (λ (o : Option LateFiring). IfSome o (λ l. IsSoonLate f r l.number l.due l.least)) c.in-Some.is some in
    subst (ForeverRefused a.net a.rows) (sym c.refused_at.ensures)
    (late_answer a c.rows-row-items.ensures.given f c.zero_inputs_are_no_lists.ensures c.requires i r (got a.rows i r within item) c.loop-row.invariant late.number late.due late.least soon)

pub loop-row-preserved : goal.loop-row-preserved
loop-row-preserved c =
    let a = c.args.due.now in
    let x = settled_date c.args.settled.now in
    let r = c.row-item.result in
    let i = c.loop-row.row-index in
    let within : i < length a.rows = rw c.rows-row-items.ensures.value at c.loop-row-test.true in
    let item : r ≡ get_or a.rows i r = rw c.rows-row-items.ensures.value at c.row-item.is in
    let none = rw c.new.ensures at c.in_ok-late.ensures.none in
    all_items (NoneLate x) a.rows a.rows i r refl within (subst (NoneLate x) item (none_of _ _ c.in_default.not-Some none)) c.loop-row.invariant

pub returns-clause-meet : goal.returns-clause-meet
returns-clause-meet c =
    let a = c.args.due.now in
    let f = c.args.settled.now in
    let i = c.loop-row.row-index in
    let low : length a.rows ≤ i = rw c.rows-row-items.ensures.value at c.loop-row-test.false in
    all_meet a c.rows-row-items.ensures.given f c.zero_inputs_are_no_lists.ensures c.requires c.zero_meets_where_none_late.ensures
    (subst (All (NoneLate (settled_date f))) (take_all i a.rows low) c.loop-row.invariant)
