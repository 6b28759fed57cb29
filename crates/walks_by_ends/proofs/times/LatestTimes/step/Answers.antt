use Rattle.std.proofs.Common.{◌<◌, ◌≡◌, ◌∙◌, length, pos, sym, ap, arith, to_z, of_z, rules}
use Rattle.std.specs.Int.{w128}
use Rattle.std.proofs.lemmas.Int.{to_z-of_z}
use Rattle.std.proofs.lemmas.List.{get_or_default}
use mir.Val.{SFits}
use Rattle.std.specs.Prelude.{slice_index_or}
use Rattle.teg_settle.specs.settled_laws.SettledForms.{SettledForm, step_of_form}
use Rattle.walks_by_ends.proofs.Told.{rows_wide}
use Rattle.walks_by_ends.proofs.times.LatestTimes.step.Goals as goal

pub index-requires : goal.index-requires
index-requires c =
    let s = c.self.inside in
    omega (arith, c.requires, ap (λ (a : SettledForm). length a.rows) c.self.view_is, rows_wide s.ways s.after s.steps.items, c.self.invariant.0)

pub returns : goal.returns
returns c =
    let fits : SFits w128 c.index.result.now = search rules in
    let s = c.self.inside in
    let within : c.args.transition.index < length s.steps.items =
    omega (arith, c.requires, ap (λ (a : SettledForm). length a.rows) c.self.view_is, rows_wide s.ways s.after s.steps.items, c.self.invariant.0) in
    let raw : c.index.result.now ≡ slice_index_or s.steps.items c.args.transition.index c.index.result.now = search rules in
    let read : c.index.result.now ≡ slice_index_or s.steps.items c.args.transition.index (pos 0) = raw ∙ get_or_default s.steps.items c.args.transition.index c.index.result.now (pos 0) within in
    to_z-of_z w128 c.index.result.now fits ∙ (read ∙ ap (λ (a : SettledForm). step_of_form a c.args.transition.index) c.self.view_is)
