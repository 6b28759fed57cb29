use Rattle.std.proofs.Common.{rules, ◌≡◌, ◌++◌, ◌∷◌, [], ◌∙◌, true, sym, subst}
use Rattle.std.specs.Prelude.{IfSome, Option}
use Rattle.std.proofs.lemmas.Result.{err_from_is_err_and}
use Rattle.teg_due.specs.RowNames.{is_input}
use Rattle.teg_forever.specs.declared.releases.Release.{Release}
use Rattle.teg_forever.specs.InputAnswers.{IsFineRelease}
use Rattle.teg_forever.proofs.Gathered.{below_more}
use Rattle.teg_forever.proofs.Residues.{refused_at}
use Rattle.teg_forever.proofs.inputs.releases_of.Goals.{in-Some, in-None+in_ok-settle_input-in-None+in_ok-release-in-None}
use Rattle.teg_forever.proofs.inputs.releases_of.Goals as goal

pub release_by_another-requires-clause-input : goal.release_by_another-requires-clause-input
release_by_another-requires-clause-input c = rw c.net-in-loop-index.ensures.value at c.if-not-is_input.ensures.input

pub release_of-requires-clause-input : goal.release_of-requires-clause-input
release_of-requires-clause-input c = rw c.net-in-loop-index.ensures.value at c.if-not-is_input.ensures.input

pub returns-in_err-release-in-None-clause-stopped : goal.returns-in_err-release-in-None-clause-stopped
returns-in_err-release-in-None-clause-stopped c =
    let p = err_from_is_err_and c.from_residual-in_err-release-in-None.result c.from_residual-in_err-release-in-None.ensures.1 in
    let m = c.args.due.now in
    rw (p.1, p.2)
    (refused_at m.net m.rows (record { index = c.loop-index.index }) c.loop-index.releases.items (rw c.net-in-loop-index.ensures.value at c.if-not-is_input.ensures.input) c.loop-index.invariant.below
    c.in_err-release-in-None.field-0.0 c.in_err-release-in-None.ensures.stopped)

pub loop-index-preserved : goal.loop-index-preserved
loop-index-preserved c =
    let m = c.args.due.now in
    let n = c.loop-index.index in
    let here : is_input c.net-in-loop-index.result.now n ≡ true = sym c.is_input.ensures.is ∙ c.if-not-is_input.false in
    let told : is_input m.net n ≡ true = rw c.net-in-loop-index.ensures.value at here in
    let added : c.push.new.self.items ≡ c.loop-index.releases.items ++ c.match-another.release ∷ [] = search rules in
    let more = below_more m.net m.rows n c.loop-index.releases.items c.loop-index.invariant.below c.match-another.release told in
    elim c.match-another.branch [
      | in-Some w ↦
          let fine = subst (λ (o : Option Release). IfSome o (IsFineRelease m.net m.rows n)) w.in-Some.is c.in_ok-another.ensures in
          record { below = rw (added, w.release-is) (rw w.release-is at more fine); divisions = rw w.divisions-is c.loop-index.invariant.divisions; ends = rw w.ends-is c.loop-index.invariant.ends }
      | in-None+in_ok-settle_input-in-None+in_ok-release-in-None w ↦ search rules
    ]
