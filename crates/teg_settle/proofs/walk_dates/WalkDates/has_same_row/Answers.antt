use Rattle.std.proofs.Common.{ℕ, ◌<◌, ◌≡◌, ◌∙◌, Bool, true, false, List, length, get_or, sym, ap, subst, ⊎_elim}
use Rattle.std.proofs.lemmas.Bool.{cases_Bool}
use Rattle.periodic_laws.specs.settled_laws.SettledForms.{row_of}
use Rattle.settled_forms.specs.Spread.{is_marked}
use Rattle.teg_settle.proofs.SpreadOut.{has_number, row_off, row_on}
use Rattle.teg_settle.proofs.walk_dates.WalkDates.has_same_row.Goals as goal

pub returns-then-not-is_marked : goal.returns-then-not-is_marked
returns-then-not-is_marked c = λ yes.
    let w = c.self.inside in
    let here : is_marked w.marks.items c.args.first.index ≡ false =
    ap (λ (m : List Bool). is_marked m c.args.first.index) (sym c.deref.ensures.value) ∙ (sym c.is_marked.ensures ∙ c.if-not-is_marked.true) in
    ⊎_elim
    (λ (e : c.is_marked-then-not-is_marked.result ≡ true). let no : false ≡ true = rw e at yes in absurd (cc))
    (λ (e : c.is_marked-then-not-is_marked.result ≡ false).
    let there : is_marked w.marks.items c.args.other.index ≡ false =
    ap (λ (m : List Bool). is_marked m c.args.other.index) (sym c.deref-then-not-is_marked.ensures.value) ∙ (sym c.is_marked-then-not-is_marked.ensures ∙ e) in
    sym (row_off w.marks.items w.new.items w.dates c.args.self.now c.self.view_is c.args.first.index c.requires.first here)
    ∙ row_off w.marks.items w.new.items w.dates c.args.self.now c.self.view_is c.args.other.index c.requires.other there)
    (cases_Bool c.is_marked-then-not-is_marked.result)

pub number_in-own-requires : goal.number_in-own-requires
number_in-own-requires c =
    let w = c.self.inside in
    let within = has_number w.marks.items w.new.items w.dates c.args.self.now c.self.view_is c.args.first.index c.requires.first in
    subst (λ (n : List ℕ). c.args.first.index < length n) (sym c.deref-3.ensures.value) within

pub number_in-twin-requires : goal.number_in-twin-requires
number_in-twin-requires c =
    let w = c.self.inside in
    let within = has_number w.marks.items w.new.items w.dates c.args.self.now c.self.view_is c.args.other.index c.requires.other in
    subst (λ (n : List ℕ). c.args.other.index < length n) (sym c.deref-4.ensures.value) within

pub has_same_row-requires-clause-first : goal.has_same_row-requires-clause-first
has_same_row-requires-clause-first c =
    let w = c.self.inside in
    let t = c.args.first.index in
    let within = has_number w.marks.items w.new.items w.dates c.args.self.now c.self.view_is t c.requires.first in
    let on : is_marked w.marks.items t ≡ true = ap (λ (m : List Bool). is_marked m t) (sym c.deref.ensures.value) ∙ (sym c.is_marked.ensures ∙ c.if-not-is_marked.false) in
    let own : c.number_in-own.result.index ≡ get_or w.new.items t 0 = c.number_in-own.ensures ∙ ap (λ (n : List ℕ). get_or n t 0) c.deref-3.ensures.value in
    subst (λ (n : ℕ). n < length w.dates.rows) (sym own) (c.self.invariant.each t within on)

pub has_same_row-requires-clause-other : goal.has_same_row-requires-clause-other
has_same_row-requires-clause-other c =
    let w = c.self.inside in
    let t = c.args.other.index in
    let within = has_number w.marks.items w.new.items w.dates c.args.self.now c.self.view_is t c.requires.other in
    let on : is_marked w.marks.items t ≡ true = ap (λ (m : List Bool). is_marked m t) (sym c.deref-2.ensures.value) ∙ (sym c.is_marked-2.ensures ∙ c.if-not-is_marked-2.false) in
    let own : c.number_in-twin.result.index ≡ get_or w.new.items t 0 = c.number_in-twin.ensures ∙ ap (λ (n : List ℕ). get_or n t 0) c.deref-4.ensures.value in
    subst (λ (n : ℕ). n < length w.dates.rows) (sym own) (c.self.invariant.each t within on)

pub returns : goal.returns
returns c = λ yes.
    let w = c.self.inside in
    let t = c.args.first.index in
    let u = c.args.other.index in
    let here : is_marked w.marks.items t ≡ true = ap (λ (m : List Bool). is_marked m t) (sym c.deref.ensures.value) ∙ (sym c.is_marked.ensures ∙ c.if-not-is_marked.false) in
    let there : is_marked w.marks.items u ≡ true = ap (λ (m : List Bool). is_marked m u) (sym c.deref-2.ensures.value) ∙ (sym c.is_marked-2.ensures ∙ c.if-not-is_marked-2.false) in
    let own : c.number_in-own.result.index ≡ get_or w.new.items t 0 = c.number_in-own.ensures ∙ ap (λ (n : List ℕ). get_or n t 0) c.deref-3.ensures.value in
    let twin : c.number_in-twin.result.index ≡ get_or w.new.items u 0 = c.number_in-twin.ensures ∙ ap (λ (n : List ℕ). get_or n u 0) c.deref-4.ensures.value in
    sym (row_on w.marks.items w.new.items w.dates c.args.self.now c.self.view_is t c.requires.first here)
    ∙ (sym (ap (row_of w.dates) own)
    ∙ (c.has_same_row.ensures yes
    ∙ (ap (row_of w.dates) twin ∙ row_on w.marks.items w.new.items w.dates c.args.self.now c.self.view_is u c.requires.other there)))
