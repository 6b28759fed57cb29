use Rattle.std.proofs.Common.{rules, ℕ, ◌≡◌, List, length, get_or, ap, subst, ◌∙◌}
use Rattle.teg_model.specs.dioid.declared.dates.Date.{Date}
use Rattle.teg_model.specs.teg_net.Nets.{NetLists}
use Rattle.dating_certificates.specs.CheckedRows.{date_in_rows}
use Rattle.dating_check.specs.FirstLate.{IsFirstLateBy}
use Rattle.dating_check.proofs.FirstLate.{bare_is_least, late_moves}
use Rattle.dating_check.proofs.first_late.is_least.Goals as goal

pub returns : goal.returns
returns c = λ sure x h.
    let net = c.args.net.now in
    let rows = c.args.rows.now in
    let late = c.args.late in
    let items = c.in_ok-dates.dates.items in
    let width : ℕ = length net.transitions in
    let wide : length c.transitions.result.now ≡ width = ap length c.transitions.ensures.value ∙ ap (λ (b : NetLists). length b.transitions) c.in_ok-bare.ensures in
    let first : IsFirstLateBy (date_in_rows width items) rows late =
    subst (λ (n : ℕ). IsFirstLateBy (date_in_rows n items) rows late) wide
    (subst (λ (l : List Date). IsFirstLateBy (date_in_rows (length c.transitions.result.now) l) rows late) c.deref-2.ensures.value (c.is_first_late.ensures sure)) in
    let least = rw (c.in_ok-bare.ensures, c.deref.ensures.value) at (c.in_ok-are_least.ensures (search rules)) in
    late_moves (date_in_rows width items) x rows late
    (λ i d l.
    let own = c.requires i d l in
    let r = get_or rows i d in
    least x (bare_is_least net x h) r.transition.index r.number own.in_range own.from_one (c.greatest_number-numbers.ensures.most i d l))
    first
