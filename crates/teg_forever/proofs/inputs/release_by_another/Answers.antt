use Rattle.std.proofs.Common.{◌≡◌, ◌<◌, rules, sym, subst, to_z, of_z}
use Rattle.std.specs.Int.{w128}
use Rattle.std.specs.Prelude.{IfSome}
use Rattle.std.proofs.lemmas.Int.{to_z-of_z}
use mir.Val.{SFits}
use Rattle.std.proofs.lemmas.Option.{IfSome_then, slice_get_within}
use Rattle.teg_forever.specs.InputAnswers.{IsFineRelease}
use Rattle.teg_forever.specs.LatestReleases.{IsReleaseOf, inputs_below}
use Rattle.teg_forever.proofs.LaggedReleases.{beside_at, lagged_fine_release}
use Rattle.teg_forever.proofs.Residues.{each_ok}
use Rattle.teg_forever.proofs.Series.{got}
use Rattle.teg_forever.proofs.inputs.release_by_another.Goals as goal

pub returns-in-Some : goal.returns-in-Some
returns-in-Some c =
    let net = c.args.due.now.net in
    let rows = c.args.due.now.rows in
    let u = c.args.input.index in
    let given = c.net.ensures.given in
    let h = rw c.net.ensures.value at c.in-Some.ensures in
    let ts = inputs_below net u in
    let place = c.in-Some.before.place in
    let old = c.index-releases-before.result in
    let within = subst (λ n. place < n) (sym c.requires.releases.each_input) (slice_get_within ts place h.other h.stands) in
    let right = beside_at (IsReleaseOf net rows) ts c.args.releases.now place h.other old c.requires.releases.right h.stands
    (got c.args.releases.now place old within c.index-releases-before.is) in
    let lag = c.in-Some.before.lag in
    let fits : SFits w128 lag = search rules in
    let known : to_z w128 (of_z w128 lag) ≡ lag = to_z-of_z w128 lag fits in
    each_ok c.earlier_release.result _ (λ found. IfSome found (IsFineRelease net rows u)) (rw known at c.earlier_release.ensures)
    (λ found k. IfSome_then found k (λ new e. lagged_fine_release net given.rules h.other u lag h.input c.requires.input h.lagged rows given.ends
    c.walk_times_settle.ensures given.is_live c.requires.releases.meet (c.requires.releases.fine h.other h.before h.input) old new right e))
