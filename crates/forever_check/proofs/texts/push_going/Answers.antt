use Rattle.std.proofs.Common.{[], ◌∷◌, codes, string_bytes}
use Rattle.std.specs.Fmt.{decimal}
use Rattle.teg_text.proofs.Joining.{line_goes_on}
use Rattle.forever_check.proofs.Written.{told_on}
use Rattle.forever_check.proofs.texts.push_going.Goals as goal

pub returns : goal.returns
returns c =
    let a = c.args.again in
    told_on c.write.result _ _ c.write.ensures.bytes
    (λ e. line_goes_on decimal c.args.dates.now (codes "period" ∷ decimal a.every ∷ codes "step" ∷ decimal a.gap ∷ [])
    (string_bytes c.args.text.now) (string_bytes c.push_numbers.new.text) (string_bytes c.write.new.self) c.in_ok-push_numbers.ensures e)
