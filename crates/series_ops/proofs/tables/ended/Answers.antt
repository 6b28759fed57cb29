use Rattle.std.proofs.Common.{◌≡◌, ◌<◌, ◌-◌, ◌∙◌, ℕ, List, ap, sym, subst, arith, length, get_or, take}
use Rattle.dioid.specs.declared.dates.Date.{Date}
use Rattle.dioid.specs.declared.dates.Date.TheVariants.{Early}
use Rattle.series_laws.specs.SeriesForms.{value_at}
use Rattle.series_form.specs.SeriesAnswers.{IsBeginning, IsShortestSeries, form_before}
use Rattle.series_ops.specs.ListFunctions.{all_but_last, last_value}
use Rattle.series_ops.proofs.FirstValues.{any_default}
use Rattle.series_ops.proofs.tables.ended.Goals as goal

last : (l : List Date) (n : ℕ) (d : Date) → 0 < length l → n ≡ length l → d ≡ get_or l (n - 1) d → d ≡ last_value l
last l n d some e h = h ∙ any_default l (n - 1) d Early (omega arith) ∙ ap (λ (z : ℕ). get_or l (z - 1) Early) e

pub shortest-requires : goal.shortest-requires
shortest-requires c =
    let size : c.len-last.result ≡ length c.args.values.items = omega arith in
    let items : c.truncate.new.self.items ≡ all_but_last c.args.values.items = c.truncate.ensures.items ∙ ap (λ (z : ℕ). take (z - 1) c.args.values.items) size in
    let next = last c.args.values.items c.len-last.result c.index-next.result.now c.requires.some size c.index-next.ensures in
    subst (λ (z : List Date). IsBeginning z c.args.turn c.index-next.result.now) (sym items)
    (subst (λ (z : Date). IsBeginning (all_but_last c.args.values.items) c.args.turn z) (sym next) c.requires.beginning)

pub returns : goal.returns
returns c =
    let size : c.len-last.result ≡ length c.args.values.items = omega arith in
    let items : c.truncate.new.self.items ≡ all_but_last c.args.values.items = c.truncate.ensures.items ∙ ap (λ (z : ℕ). take (z - 1) c.args.values.items) size in
    let next = last c.args.values.items c.len-last.result c.index-next.result.now c.requires.some size c.index-next.ensures in
    subst (λ (z : Date). IsShortestSeries (value_at (form_before (all_but_last c.args.values.items) c.args.turn z)) c.shortest.result) next
    (subst (λ (z : List Date). IsShortestSeries (value_at (form_before z c.args.turn c.index-next.result.now)) c.shortest.result) items c.shortest.ensures)
