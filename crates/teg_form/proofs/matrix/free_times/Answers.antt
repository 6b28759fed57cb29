use Rattle.std.proofs.Common.{◌≡◌, refl, length}
use Rattle.dioid.specs.contracts.max_plus.DateDioid.TheImpl.{ghosts as dates}
use Rattle.dioid.specs.contracts.max_plus.DateKleene.TheImpl.{ghosts as stars}
use Rattle.dioid_matrix.specs.Tables.{table_of}
use Rattle.dioid_matrix.specs.Turns.{IsStar, StarRefused}
use Rattle.dioid_matrix.specs.declared.refusals.MatrixRefused.TheVariants.{Range}
use Rattle.teg_net.specs.Nets.{NetLists}
use Rattle.teg_form.proofs.Recursion.{AreOfDates}
use Rattle.teg_form.proofs.StarIs.{free_times_are, range_never}
use Rattle.teg_form.proofs.matrix.free_times.Goals as goal

of_dates : AreOfDates dates stars
of_dates = record {
  zero_is = refl;
  one_is = refl;
  sum_is = λ a b. refl;
  product_is = λ a b. refl;
  star_is = λ a. refl;
  elements = λ a. tt;
  sums_fit = λ a b. tt;
  products_fit = λ a b h. h;
  stars_fit = λ a. tt;
}

pub returns-in-Ok-star : goal.returns-in-Ok-star
returns-in-Ok-star c =
    let net : NetLists = c.args.net.now in
    let matrix : c.in-Ok.matrix ≡ table_of (length net.transitions) (length net.transitions) c.in_ok-holds.holds.items = rw c.transitions-count.ensures.value at c.in-Ok.ensures.answer.0 in
    let star : IsStar dates stars c.in-Ok.matrix c.in-Ok-star.times = c.in-Ok-star.ensures.answer in
    free_times_are net c.args.live.now c.transitions-count.ensures.rules c.requires.stands dates stars of_dates c.in_ok-holds.holds.items c.in_ok-holds.ensures c.in-Ok-star.times (rw matrix at star)

pub unreachable-requires-in-Err-Range : goal.unreachable-requires-in-Err-Range
unreachable-requires-in-Err-Range c =
    let net : NetLists = c.args.net.now in
    let matrix : c.in-Ok.matrix ≡ table_of (length net.transitions) (length net.transitions) c.in_ok-holds.holds.items = rw c.transitions-count.ensures.value at c.in-Ok.ensures.answer.0 in
    let refused : StarRefused dates stars c.in-Ok.matrix
    (Range c.in-Err-Range.field-0-0 c.in-Err-Range.field-0-1 c.in-Err-Range.field-0-2) = rw c.in-Err-Range.field-0-is at c.in-Err-Range.ensures.answer in
    range_never net c.args.live.now c.transitions-count.ensures.rules c.requires.stands dates stars of_dates c.in_ok-holds.holds.items c.in_ok-holds.ensures
    c.in-Err-Range.field-0-0 c.in-Err-Range.field-0-1 c.in-Err-Range.field-0-2 (rw matrix at refused)
