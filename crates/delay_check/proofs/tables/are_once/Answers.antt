use Rattle.std.proofs.Common.{ℕ, ◌≡◌, ◌<◌, ◌∙◌, true, false, length, get_or, refl, sym, subst, arith}
use Rattle.delay_laws.specs.declared.table.Delay.{Delay}
use Rattle.seen_rows.proofs.RowsOnce.{HaveColumns, one_more, seen_twice}
use Rattle.delay_check.proofs.tables.are_once.Goals as goal

-- what stands past the end of the delays
abbrev no_delay : Delay
no_delay = record { row = 0; transition = record { index = 0 }; number = 0; by = 0 }

pub loop-index-preserved : goal.loop-index-preserved
loop-index-preserved c =
    let delays = c.args.delays.now in
    let n : ℕ = c.loop-index.index in
    let seen = c.loop-index.seen in
    let (wide, once) = c.loop-index.invariant in
    let inside : n < length delays = omega (arith, c.loop-index-test.true, c.loop-index.auto.index-end) in
    let within : HaveColumns (λ (d : Delay). d.transition.index) (λ (d : Delay). d.number) seen delays = λ i d l. subst (λ (w : ℕ). (get_or delays i d).transition.index < w) (sym wide) (c.requires i d l).transition_in in (
      c.add.ensures.width ∙ wide,
      one_more (λ (d : Delay). d.transition.index) (λ (d : Delay). d.number) delays n no_delay seen c.add.new.self inside within c.add.ensures.width c.add.ensures.more
          (sym c.has.ensures ∙ c.if-has.false) once,
    )

pub returns-then-has : goal.returns-then-has
returns-then-has c =
    let delays = c.args.delays.now in
    let n : ℕ = c.loop-index.index in
    let seen = c.loop-index.seen in
    let (wide, once) = c.loop-index.invariant in
    let inside : n < length delays = omega (arith, c.loop-index-test.true, c.loop-index.auto.index-end) in
    let within : HaveColumns (λ (d : Delay). d.transition.index) (λ (d : Delay). d.number) seen delays = λ i d l. subst (λ (w : ℕ). (get_or delays i d).transition.index < w) (sym wide) (c.requires i d l).transition_in in
    let there = seen_twice (λ (d : Delay). d.transition.index) (λ (d : Delay). d.number) delays n no_delay seen inside within once (sym c.has.ensures ∙ c.if-has.true) in
    let own = there.2 no_delay in (
      λ (e : false ≡ true). cc,
      λ apart. absurd (apart there.0 n no_delay there.1 inside own.0 own.1),
    )

pub returns : goal.returns
returns c = (
  λ _ i j d l m. (let (wide, once) = c.loop-index.invariant in once.2 i j d l (omega (arith, m, c.loop-index-test.false))),
  λ _. refl,
)
