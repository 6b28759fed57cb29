use Rattle.std.proofs.Common.{rules, ◌≡◌, ◌≤◌, ◌+◌, ◌*◌, ◌∙◌, ℕ, ap, arith, length, to_z, of_z}
use Rattle.std.specs.Int.{w128}
use Rattle.std.specs.Int.RustNames.{unsigned_abs}
use Rattle.std.proofs.lemmas.Int.{to_z-of_z}
use Rattle.series_laws.specs.Periodic.{times}
use Rattle.series_laws.specs.SeriesForms.{size_of, repeat_start, value_at}
use Rattle.series_laws.proofs.FormValues.{table_length}
use Rattle.series_form.specs.SeriesLimits.{greatest_value}
use Rattle.series_ops.proofs.LeftValues.{long_table_up_to}
use Rattle.series_ops.proofs.SplitLaws.{stepped}
use Rattle.series_ops.proofs.StrideLaws.{turns_are_stride}
use Rattle.series_ops.proofs.strides.stride_of_turns.Goals as goal

pub raised_from-from-requires-clause-values : goal.raised_from-from-requires-clause-values
raised_from-from-requires-clause-values c =
    let f = c.args.first.now in
    let short : size_of f ≤ 20000 = c.start.ensures.series.short in
    long_table_up_to f (repeat_start f + size_of f) c.args.values.now c.start.ensures.series (omega arith) c.requires.values

pub raised_from-from-requires-clause-places : goal.raised_from-from-requires-clause-places
raised_from-from-requires-clause-places c =
    let f = c.args.first.now in
    let size : length c.args.values.now ≡ repeat_start f + size_of f = ap length c.requires.values ∙ table_length (value_at f) (repeat_start f + size_of f) in
    let turns : c.args.turns * c.period.result ≡ c.args.turns * f.period = ap (λ (z : ℕ). c.args.turns * z) c.period.ensures.value in
    let short = c.requires.short in
    let start = c.start.ensures.value in
    omega arith

pub returns : goal.returns
returns c =
    let f = c.args.first.now in
    let code : to_z w128 (of_z w128 c.many-gain.result) ≡ c.many-gain.result = to_z-of_z w128 c.many-gain.result (record { sfits = c.many-gain.type_inv }) in
    let gain : c.many-gain.result ≡ times c.args.turns f.step =
    c.many-gain.ensures.value ∙ ap (times c.args.turns) (stepped f c.step.result c.step.ensures.series c.step.ensures.value) in
    let low : unsigned_abs (to_z w128 (of_z w128 c.many-gain.result)) ≤ greatest_value = search rules in
    let start = c.start.ensures.value in
    let within = c.raised_from-from.ensures.within in
    turns_are_stride f _ c.args.values.now c.args.turns c.start.ensures.series c.requires.turns
    (ap (λ (z : ℕ). c.args.turns * z) c.period.ensures.value) (code ∙ gain) c.requires.short low (omega arith) c.requires.values
    (rw (← start) c.raised_from-from.ensures.raised)
