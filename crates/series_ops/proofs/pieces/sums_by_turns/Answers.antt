use Rattle.std.proofs.Common.{◌≡◌, ◌≤◌, ◌+◌, ◌*◌, ◌∙◌, ℕ, ℤ, ap, arith, length, to_z, of_z}
use Rattle.std.specs.Int.{w128}
use Rattle.std.specs.Int.RustNames.{unsigned_abs}
use Rattle.std.proofs.lemmas.Int.{to_z-of_z}
use Rattle.std.proofs.lemmas.Nat.{mul-le}
use Rattle.dioid.specs.declared.dates.Date.TheVariants.{At}
use Rattle.series_laws.specs.Periodic.{times}
use Rattle.series_laws.specs.SeriesForms.{table}
use Rattle.series_form.proofs.DateNumbers.{moderate_fits}
use Rattle.series_ops.specs.ListFunctions.{value_listed}
use Rattle.series_ops.specs.Pieces.{window, joined_at}
use Rattle.series_ops.proofs.PieceLaws.{turns_more, windows_up_to}
use Rattle.series_ops.proofs.pieces.sums_by_turns.Goals as goal

pub loop-turn-init : goal.loop-turn-init
loop-turn-init c =
    let some = c.requires.piece.turns in
    let once : c.args.piece.size ≡ c.args.piece.size * 1 = grind arith in (
      c.in_ok-sums.ensures ∙ ap (λ (z : ℕ). table (window (value_listed c.args.first.now) (value_listed c.args.second.now) c.args.from z) (length c.args.second.now)) once,
      omega arith,
      omega arith,
    )

pub joined-requires-clause-others : goal.joined-requires-clause-others
joined-requires-clause-others c = windows_up_to c.args.first.now c.args.second.now c.as_slice-known.result.now c.args.from
    (c.args.piece.size * c.loop-turn.done) (length c.args.second.now) c.requires.first c.requires.second (c.as_slice-known.ensures.value ∙ c.loop-turn.invariant.0)

pub loop-turn-preserved : goal.loop-turn-preserved
loop-turn-preserved c =
    let n = c.args.piece.size in
    let w = c.args.piece.turns in
    let v = c.min-more.result in
    let x = c.args.piece.step in
    let more = c.min-more.ensures in
    let within = c.loop-turn.invariant.1 in
    let far = c.loop-turn.invariant.2 in
    let again = c.loop-turn-test.true in
    let low : unsigned_abs x ≤ 40002000000000000000000 = c.requires.piece.step in
    let date : to_z w128 (of_z w128 c.many.result) ≡ times v x =
    to_z-of_z w128 c.many.result (record { sfits = c.many.type_inv }) ∙ c.many.ensures.value ∙ ap (times v) (to_z-of_z w128 x (moderate_fits x (omega arith))) in
    let room : n * (c.loop-turn.done + v) ≤ n * w = mul-le n (c.loop-turn.done + v) n w (omega arith) (omega arith) in (
      turns_more c.args.first.now c.args.second.now c.as_slice-known.result.now c.in_ok-next.next.items c.args.from (n * w) n c.loop-turn.done v x
          c.requires.piece.repeats (omega arith) room (c.as_slice-known.ensures.value ∙ c.loop-turn.invariant.0)
          (c.in_ok-next.ensures ∙ ap (λ (z : ℤ). table
          (joined_at (value_listed c.as_slice-known.result.now) (value_listed c.as_slice-known.result.now) (n * v) (At z)) (length c.as_slice-known.result.now)) date),
      omega arith,
      omega arith,
    )
