use Rattle.std.proofs.Common.{subst}
use Rattle.teg_forever.specs.TogetherRows.{IsFoundNext}
use Rattle.teg_forever.proofs.together.told_together.Goals as goal

pub returns-in-Some : goal.returns-in-Some
returns-in-Some c =
    let a = c.args.due.now in
    let s = c.in_ok-search.search in
    let h = c.in_ok-search.ensures in
    record { none = h.none; late = subst (IsFoundNext a.net a.rows _ s.left) c.in-Some.is h.found }
