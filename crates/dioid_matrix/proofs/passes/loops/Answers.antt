use Rattle.std.proofs.Common.{◌+◌, ◌*◌, [], arith, refl}
use Rattle.dioid_matrix.specs.Tables.{entry_of, table_of}
use Rattle.dioid_matrix.proofs.Cells.{place_within, read_as, holds_none, holds_more}
use Rattle.dioid_matrix.proofs.Turning.{loops_end}
use Rattle.dioid_matrix.proofs.passes.loops.Goals as goal

pub overflow_mul-k : goal.overflow_mul-k
overflow_mul-k g c =
    let b = place_within _ _ _ _ _ c.requires.step c.requires.step c.requires.filled in
    omega (arith, b)

pub overflow_add-k : goal.overflow_add-k
overflow_add-k g c =
    let b = place_within _ _ _ _ _ c.requires.step c.requires.step c.requires.filled in
    omega (arith, b)

pub offset_bounds-entries-k : goal.offset_bounds-entries-k
offset_bounds-entries-k g c =
    let b = place_within _ _ _ _ _ c.requires.step c.requires.step c.requires.filled in
    omega (arith, b)

pub bounds-entries-k : goal.bounds-entries-k
bounds-entries-k g c = place_within _ _ _ _ _ c.requires.step c.requires.step c.requires.filled

pub returns-in-Err-Range : goal.returns-in-Err-Range
returns-in-Err-Range g c =
    let d = g.D.Dioid in
    let s = g.D.Kleene in
    let size = c.args.size in
    let k = c.args.k in
    let refused = rw c.in-Err-Range.field-0-is at c.in-Err-Range.ensures.answer in
    let inside = place_within _ _ _ _ _ c.requires.step c.requires.step c.requires.filled in
    let pivot = read_as c.args.entries.now _ (k * size + k) _ d.zero inside c.index-entries-k.is refl in
    let misfits = rw pivot at refused in
    rw c.new-loops.ensures.items (loops_end d s size (entry_of d (table_of size size c.args.entries.now)) k 0 [] (holds_none d _ _) (omega arith) (λ _ f. misfits f.0))

pub loop-column-init : goal.loop-column-init
loop-column-init g c = rw c.new-loops.ensures.items (holds_none g.D.Dioid _ _)

pub overflow_mul-k-in-loop-column : goal.overflow_mul-k-in-loop-column
overflow_mul-k-in-loop-column g c =
    let b = place_within _ _ _ _ _ c.requires.step c.loop-column-test.true c.requires.filled in
    omega (arith, b)

pub overflow_add-k-in-loop-column : goal.overflow_add-k-in-loop-column
overflow_add-k-in-loop-column g c =
    let b = place_within _ _ _ _ _ c.requires.step c.loop-column-test.true c.requires.filled in
    omega (arith, b)

pub offset_bounds-entries-k-in-loop-column : goal.offset_bounds-entries-k-in-loop-column
offset_bounds-entries-k-in-loop-column g c =
    let b = place_within _ _ _ _ _ c.requires.step c.loop-column-test.true c.requires.filled in
    omega (arith, b)

pub bounds-entries-k-in-loop-column : goal.bounds-entries-k-in-loop-column
bounds-entries-k-in-loop-column g c = place_within _ _ _ _ _ c.requires.step c.loop-column-test.true c.requires.filled

pub returns-in-Err-Range-times : goal.returns-in-Err-Range-times
returns-in-Err-Range-times g c =
    let d = g.D.Dioid in
    let s = g.D.Kleene in
    let size = c.args.size in
    let k = c.args.k in
    let j = c.loop-column.column in
    let refused = rw c.in-Err-Range-times.field-0-is at c.in-Err-Range-times.ensures.answer in
    let pivot = read_as c.args.entries.now _ (k * size + k) _ d.zero (place_within _ _ _ _ _ c.requires.step c.requires.step c.requires.filled) c.index-entries-k.is refl in
    let entry = read_as c.args.entries.now _ (k * size + j) _ d.zero (place_within _ _ _ _ _ c.requires.step c.loop-column-test.true c.requires.filled) c.index-entries-k-in-loop-column.is refl in
    let misfits = rw (c.in-Ok.ensures.answer.0, pivot, entry) at refused in
    loops_end d s size (entry_of d (table_of size size c.args.entries.now)) k j _ c.loop-column.invariant (omega arith) (λ _ f. misfits f.1)

pub loop-column-preserved : goal.loop-column-preserved
loop-column-preserved g c =
    let d = g.D.Dioid in
    let k = c.args.k in
    let size = c.args.size in
    let j = c.loop-column.column in
    let pivot = read_as c.args.entries.now _ (k * size + k) _ d.zero (place_within _ _ _ _ _ c.requires.step c.requires.step c.requires.filled) c.index-entries-k.is refl in
    let entry = read_as c.args.entries.now _ (k * size + j) _ d.zero (place_within _ _ _ _ _ c.requires.step c.loop-column-test.true c.requires.filled) c.index-entries-k-in-loop-column.is refl in
    let star = rw pivot at c.in-Ok.ensures.answer in
    let product = rw (star.0, entry) at c.in-Ok-times.ensures.answer in
    rw c.in_ok-push-in-Ok-times.ensures.items (holds_more _ _ _ _ _ _ c.loop-column.invariant (star.1, product.1) product.0 c.in-Ok-times.ensures.element)

pub returns : goal.returns
returns g c =
    let d = g.D.Dioid in
    let size = c.args.size in
    loops_end d g.D.Kleene size (entry_of d (table_of size size c.args.entries.now)) c.args.k c.loop-column.column _ c.loop-column.invariant (omega arith) (λ left. absurd (omega (arith, left)))
