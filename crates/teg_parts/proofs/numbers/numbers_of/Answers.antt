use Rattle.std.proofs.Common.{◌≡◌, ◌<◌, ◌≤◌, [], ◌∷◌, Some, length, subst, arith, ⊎_elim}
use Rattle.std.proofs.lemmas.Bool.{cases_lt}
use Rattle.std.proofs.lemmas.List.{length_push, get_or_push, get_or_append_left}
use Rattle.teg_parts.specs.PartNumbers.{part_number}
use Rattle.teg_parts.proofs.Marks.{is_some_of}
use Rattle.teg_parts.proofs.numbers.numbers_of.Goals as goal

pub unwrap-requires : goal.unwrap-requires
unwrap-requires c = is_some_of (part_number c.args.numbers.now c.loop-number.number-index) (c.requires c.loop-number.number-index c.loop-number-test.true)

pub loop-number-preserved : goal.loop-number-preserved
loop-number-preserved c =
    let h = c.loop-number.invariant in
    let old = c.loop-number.plain.items in
    let i = c.loop-number.number-index in
    let x = c.unwrap.result in
    let numbers = c.args.numbers.now in
    let long = h.long in
    let push = length_push old x in
    rw c.in_ok-push.ensures.items
    (record {
      long = omega arith;
      same = λ t l.
          ⊎_elim
          (λ (q : t < i). let t_in : t < length old = omega arith in rw (get_or_append_left old (x ∷ []) 0 t t_in) (h.same t q))
          (λ (q : i ≤ t).
          let e : i ≡ t = omega arith in
          let at : length old ≡ t = omega arith in
          rw (get_or_push old x 0 t at) (subst (λ y. part_number numbers y ≡ Some x) e c.unwrap.ensures))
          (cases_lt t i);
    })
