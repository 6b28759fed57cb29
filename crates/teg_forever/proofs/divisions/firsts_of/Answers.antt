use Rattle.std.proofs.Common.{rules, ◌≡◌, ◌≤◌, ◌+◌, ◌++◌, ◌∷◌, [], ℕ, length, sym, subst, arith}
use Rattle.teg_forever.specs.Divisions.{AreFirstsTo}
use Rattle.teg_forever.proofs.Dividing.{firsts_more}
use Rattle.teg_forever.proofs.divisions.firsts_of.Goals as goal

pub loop-place-preserved : goal.loop-place-preserved
loop-place-preserved c =
    let added : c.push.new.self.items ≡ c.loop-place.firsts.items ++ c.first_alike.result ∷ [] = search rules in
    subst (AreFirstsTo c.args.rows.now (c.loop-place.place + 1)) (sym added)
    (firsts_more c.args.rows.now c.loop-place.place c.loop-place.firsts.items c.first_alike.result c.loop-place.invariant c.first_alike.ensures)

pub returns : goal.returns
returns c =
    let low : length c.args.rows.now ≤ c.loop-place.place = c.loop-place-test.false in
    let same : c.loop-place.place ≡ length c.args.rows.now = omega arith in
    subst (λ (n : ℕ). AreFirstsTo c.args.rows.now n c.loop-place.firsts.items) same c.loop-place.invariant
