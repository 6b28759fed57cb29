use Rattle.std.proofs.Common.{ℕ, ◌<◌, ◌≡◌, ◌∙◌, Bool, true, false, List, length, get_or, replicate, sym, ap, subst, rules}
use Rattle.std.specs.Prelude.{IfOk}
use Rattle.dioid.specs.declared.dates.Date.TheVariants.{Early}
use Rattle.periodic_laws.specs.settled_laws.SettledForms.{row_of, settled_length}
use Rattle.settled_forms.specs.Spread.{is_marked}
use Rattle.teg_settle.proofs.SpreadOut.{has_number, row_off, row_on}
use Rattle.teg_settle.proofs.walk_dates.WalkDates.row.Goals as goal

pub returns-then-not-is_marked : goal.returns-then-not-is_marked
returns-then-not-is_marked c =
    let w = c.self.inside in
    let t = c.args.transition.index in
    let off : is_marked w.marks.items t ≡ false = ap (λ (m : List Bool). is_marked m t) (sym c.deref.ensures.value) ∙ (sym c.is_marked.ensures ∙ c.if-not-is_marked.true) in
    let none : c.in_ok-none.none.items ≡ replicate (settled_length w.dates) Early = search rules in
    record { row = none ∙ row_off w.marks.items w.new.items w.dates c.args.self.now c.self.view_is t c.requires.transition off }

pub number_in-own-requires : goal.number_in-own-requires
number_in-own-requires c =
    let w = c.self.inside in
    let within = has_number w.marks.items w.new.items w.dates c.args.self.now c.self.view_is c.args.transition.index c.requires.transition in
    subst (λ (n : List ℕ). c.args.transition.index < length n) (sym c.deref-2.ensures.value) within

pub row-requires : goal.row-requires
row-requires c =
    let w = c.self.inside in
    let t = c.args.transition.index in
    let within = has_number w.marks.items w.new.items w.dates c.args.self.now c.self.view_is t c.requires.transition in
    let on : is_marked w.marks.items t ≡ true = ap (λ (m : List Bool). is_marked m t) (sym c.deref.ensures.value) ∙ (sym c.is_marked.ensures ∙ c.if-not-is_marked.false) in
    let own : c.number_in-own.result.index ≡ get_or w.new.items t 0 = c.number_in-own.ensures ∙ ap (λ (n : List ℕ). get_or n t 0) c.deref-2.ensures.value in
    record { transition = subst (λ (n : ℕ). n < length w.dates.rows) (sym own) (c.self.invariant.each t within on) }

pub returns : goal.returns
returns c =
    let w = c.self.inside in
    let t = c.args.transition.index in
    let on : is_marked w.marks.items t ≡ true = ap (λ (m : List Bool). is_marked m t) (sym c.deref.ensures.value) ∙ (sym c.is_marked.ensures ∙ c.if-not-is_marked.false) in
    let own : c.number_in-own.result.index ≡ get_or w.new.items t 0 = c.number_in-own.ensures ∙ ap (λ (n : List ℕ). get_or n t 0) c.deref-2.ensures.value in
    let is = ap (row_of w.dates) own ∙ row_on w.marks.items w.new.items w.dates c.args.self.now c.self.view_is t c.requires.transition on in
    record { row = subst (λ r. IfOk c.row.result (λ row. row.items ≡ r)) is c.row.ensures.row }
