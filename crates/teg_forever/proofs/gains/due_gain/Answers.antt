use Rattle.std.proofs.Common.{◌≡◌, ◌≤◌, ◌∙◌, ℕ, pos, List, map, sym, ap, subst, arith, length, to_z}
use Rattle.std.specs.Int.{w128}
use Rattle.std.proofs.lemmas.Int.{to_z_pos}
use Rattle.std.proofs.lemmas.List.{length-map}
use Rattle.dioid.specs.declared.dates.Date.{Date}
use Rattle.dioid.specs.declared.dates.Date.TheVariants.{At}
use Rattle.forever_laws.specs.series_laws.SeriesForms.{Form, form_with, value_at}
use Rattle.forever_laws.specs.series_laws.Periodic.{Rising}
use Rattle.teg_net.specs.Limits.{greatest_input_date}
use Rattle.forever_laws.specs.SeriesColumns.{listed_dates}
use Rattle.endless_due.specs.declared.row.EndlessRow.{EndlessRow}
use Rattle.teg_forever.proofs.Series.{due_made, due_fits}
use Rattle.teg_forever.proofs.gains.due_gain.Goals as goal

same : (r : EndlessRow) (l : List Date) → l ≡ listed_dates r → r.gap ≤ greatest_input_date → form_with l r.every (to_z w128 r.gap) ≡ form_with (listed_dates r) r.every (pos r.gap)
same r l e low = ap (λ (z : List Date). form_with z r.every (to_z w128 r.gap)) e ∙ ap (form_with (listed_dates r) r.every) (to_z_pos w128 r.gap (omega arith))

pub from_list-requires-clause-rising : goal.from_list-requires-clause-rising
from_list-requires-clause-rising c =
    let list : c.as_slice-2.result.now ≡ listed_dates c.args.row.now = c.as_slice-2.ensures.value ∙ c.in_ok-list.ensures ∙ ap (map (λ (d : ℕ). At (pos d))) c.as_slice.ensures in
    subst (λ (z : Form). Rising (value_at z)) (sym (same c.args.row.now c.as_slice-2.result.now list c.requires.1.goes_on.gap_in))
    (c.forms_are_series.ensures.dues c.requires.0 c.args.row.now c.requires.1).rising

pub gain_of-requires : goal.gain_of-requires
gain_of-requires c =
    let list : c.as_slice-2.result.now ≡ listed_dates c.args.row.now = c.as_slice-2.ensures.value ∙ c.in_ok-list.ensures ∙ ap (map (λ (d : ℕ). At (pos d))) c.as_slice.ensures in
    let long : length c.as_slice-2.result.now ≡ length c.args.row.now.dates = ap length list ∙ length-map c.args.row.now.dates (λ d. At (pos d)) in
    let few = c.requires.1.few in
    due_fits c.args.row.now (form_with c.as_slice-2.result.now c.args.row.now.every (to_z w128 c.args.row.now.gap)) (length c.as_slice-2.result.now) c.from_list.result (omega arith)
    (c.series_fit.ensures.dues c.requires.0 c.args.row.now c.requires.1)
    (λ k. ap (λ (z : Form). value_at z k) (same c.args.row.now c.as_slice-2.result.now list c.requires.1.goes_on.gap_in)
    ∙ (c.forms_are_series.ensures.dues c.requires.0 c.args.row.now c.requires.1).each k)
    c.from_list.ensures

pub returns : goal.returns
returns c =
    let list : c.as_slice-2.result.now ≡ listed_dates c.args.row.now = c.as_slice-2.ensures.value ∙ c.in_ok-list.ensures ∙ ap (map (λ (d : ℕ). At (pos d))) c.as_slice.ensures in
    due_made c.args.row.now (form_with c.as_slice-2.result.now c.args.row.now.every (to_z w128 c.args.row.now.gap)) (length c.as_slice-2.result.now) c.from_list.result c.gain_of.result
    (λ k. ap (λ (z : Form). value_at z k) (same c.args.row.now c.as_slice-2.result.now list c.requires.1.goes_on.gap_in)
    ∙ (c.forms_are_series.ensures.dues c.requires.0 c.args.row.now c.requires.1).each k)
    c.from_list.ensures c.gain_of.ensures
