use Rattle.std.proofs.Common.{ℕ, ◌≡◌, ◌+◌, ◌*◌, ◌∙◌, ap, sym, arith}
use Rattle.teg_forever.proofs.KeptApart.{distributes}
use Rattle.teg_forever.proofs.leads.start_under.Goals as goal

pub returns : goal.returns
returns c =
    let firings : ℕ = c.args.cycle.firings in
    let rise : ℕ = c.args.cycle.rise in
    let whole : c.from.result ≡ firings = c.from.ensures in
    let rest : c.from-2.result + c.args.place ≡ firings = omega (arith, c.from-2.ensures, c.requires.place) in
    let height : c.from.result * c.args.date ≡ firings * c.args.date = ap (λ (n : ℕ). n * c.args.date) whole in
    let parts : rise * firings ≡ rise * c.from-2.result + rise * c.args.place = ap (λ (n : ℕ). rise * n) (sym rest) ∙ distributes rise c.from-2.result c.args.place in
    omega (arith, height, parts)
