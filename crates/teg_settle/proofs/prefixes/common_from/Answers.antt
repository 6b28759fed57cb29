use Rattle.std.proofs.Common.{◌<◌, ◌≤◌, ◌≡◌, ◌+◌, sym, ap, ◌∙◌, to_z, arith, ⊎_elim}
use Rattle.std.specs.Int.{w128}
use Rattle.std.proofs.lemmas.Bool.{cases_lt}
use Rattle.std.proofs.lemmas.Int.{to_z-of_z}
use Rattle.teg_settle.specs.Prefixes.{move_back}
use Rattle.teg_settle.proofs.prefixes.common_from.Goals as goal

pub common-preserved : goal.common-preserved
common-preserved c =
    let n = c.common.length in
    let f = move_back c.args.rows.now c.args.transition.index in
    let room = c.common-test.true in
    let same : c.move_back.result ≡ c.move_back-in-common.result =
    sym (to_z-of_z w128 c.move_back.result (record { sfits = c.move_back.type_inv }))
    ∙ (ap (to_z w128) c.if-move_back.true ∙ to_z-of_z w128 c.move_back-in-common.result (record { sfits = c.move_back-in-common.type_inv })) in
    let here : f (c.args.at + n) ≡ f n = sym c.move_back.ensures ∙ (same ∙ c.move_back-in-common.ensures) in
    record {
      within = omega (arith, c.count-all.ensures.value);
      same = λ j l. ⊎_elim
          (λ (q : j < n). c.common.invariant.same j q)
          (λ (q : n ≤ j). let is : j ≡ n = omega arith in rw is here)
          (cases_lt j n);
    }
