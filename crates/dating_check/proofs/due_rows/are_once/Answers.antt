use Rattle.std.proofs.Common.{ℕ, ◌≡◌, ◌≢◌, ◌<◌, ◌∙◌, length, get_or, sym, subst, arith, ⊎_elim, inl, inr}
use Rattle.std.proofs.lemmas.Bool.{cases_eq}
use Rattle.teg_due.specs.declared.rows.DueRow.{DueRow}
use Rattle.teg_due.specs.RowRules.{AreApart}
use Rattle.teg_due.proofs.DueOnce.{no_row}
use Rattle.seen_rows.proofs.RowsOnce.{AreOther, HaveColumns, one_more, seen_twice}
use Rattle.dating_check.proofs.due_rows.are_once.Goals as goal

-- the transition of a row, by its number
abbrev column : DueRow → ℕ
column r = r.transition.index

-- the number of its firing
abbrev number : DueRow → ℕ
number r = r.number

-- rows that are not of one firing are apart
apart : (r s : DueRow) → AreOther column number r s → AreApart r s
apart r s other =
    ⊎_elim
    (λ (e : r.transition.index ≡ s.transition.index). inr (other e))
    (λ (e : r.transition.index ≢ s.transition.index). inl e)
    (cases_eq r.transition.index s.transition.index)

pub loop-index-preserved : goal.loop-index-preserved
loop-index-preserved c =
    let rows = c.args.rows.now in
    let n : ℕ = c.loop-index.index in
    let seen = c.loop-index.seen in
    let (wide, once) = c.loop-index.invariant in
    let inside : n < length rows = omega (arith, c.loop-index-test.true, c.loop-index.auto.index-end) in
    let within : HaveColumns column number seen rows = λ i d l. subst (λ (w : ℕ). (get_or rows i d).transition.index < w) (sym wide) (c.requires i d l).in_range in (
      c.add.ensures.width ∙ wide,
      one_more column number rows n no_row seen c.add.new.self inside within c.add.ensures.width c.add.ensures.more (sym c.has.ensures ∙ c.if-has.false) once,
    )

pub returns-then-has-clause-all : goal.returns-then-has-clause-all
returns-then-has-clause-all c =
    let rows = c.args.rows.now in
    let n : ℕ = c.loop-index.index in
    let seen = c.loop-index.seen in
    let (wide, once) = c.loop-index.invariant in
    let inside : n < length rows = omega (arith, c.loop-index-test.true, c.loop-index.auto.index-end) in
    let within : HaveColumns column number seen rows = λ i d l. subst (λ (w : ℕ). (get_or rows i d).transition.index < w) (sym wide) (c.requires i d l).in_range in
    let there = seen_twice column number rows n no_row seen inside within once (sym c.has.ensures ∙ c.if-has.true) in
    let own = there.2 no_row in
    λ all. absurd (⊎_elim (λ other. other own.0) (λ other. other own.1) (all there.0 n no_row there.1 inside))

pub returns-clause-once : goal.returns-clause-once
returns-clause-once c = λ _ i j d l m. (let (wide, once) = c.loop-index.invariant in apart (get_or c.args.rows.now i d) (get_or c.args.rows.now j d) (once.2 i j d l (omega (arith, m, c.loop-index-test.false))))
