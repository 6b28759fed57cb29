use Rattle.std.proofs.Common.{FitsSigned, to_z, of_z, to_z-of_z, ◌≡◌, rules}
use Rattle.std.specs.Int.{w128}
use Rattle.teg_critical.proofs.losses.loss_by.Goals as goal

pub lost_between-lost-requires : goal.lost_between-lost-requires
lost_between-lost-requires c =
    let one : to_z w128 (of_z w128 c.count_at.result) ≡ c.count_at.result = (let fits : FitsSigned w128 c.count_at.result = search rules in to_z-of_z fits) in
    let two : to_z w128 (of_z w128 c.potential_of-start.result) ≡ c.potential_of-start.result = (let fits : FitsSigned w128 c.potential_of-start.result = search rules in to_z-of_z fits) in
    let three : to_z w128 (of_z w128 c.potential_of-end.result) ≡ c.potential_of-end.result = (let fits : FitsSigned w128 c.potential_of-end.result = search rules in to_z-of_z fits) in
    rw (one, two, three, c.potential_of-start.ensures, c.potential_of-end.ensures, c.count_at.ensures) c.requires.can_lose

pub returns : goal.returns
returns c =
    let one : to_z w128 (of_z w128 c.count_at.result) ≡ c.count_at.result = (let fits : FitsSigned w128 c.count_at.result = search rules in to_z-of_z fits) in
    let two : to_z w128 (of_z w128 c.potential_of-start.result) ≡ c.potential_of-start.result = (let fits : FitsSigned w128 c.potential_of-start.result = search rules in to_z-of_z fits) in
    let three : to_z w128 (of_z w128 c.potential_of-end.result) ≡ c.potential_of-end.result = (let fits : FitsSigned w128 c.potential_of-end.result = search rules in to_z-of_z fits) in
    record {
      scale = c.tokens.ensures.value;
      some = c.requires.some;
      below = c.requires.below;
      lost = c.lost_between-lost.result;
      is_lost = rw (one, two, three, c.potential_of-start.ensures, c.potential_of-end.ensures, c.count_at.ensures) at c.lost_between-lost.ensures.lost;
      amount = c.loss_against.ensures.amount;
      small = c.loss_against.ensures.small;
    }
