use Rattle.std.proofs.Common.{rules, ◌≡◌, ℕ, ℤ, List, [], ◌∷◌, ◌++◌, ap, ◌∙◌, codes, string_bytes, to_z, of_z, arith}
use Rattle.std.specs.Fmt.{decimal, signed_decimal}
use Rattle.std.specs.List.{flat_map}
use Rattle.std.specs.Int.{w128}
use Rattle.std.specs.Int.RustNames.{unsigned_abs}
use Rattle.teg_text.specs.ValueWords.{date_word}
use Rattle.teg_calc.proofs.SignedNumbers.{same_number}
use Rattle.teg_calc.proofs.Printed.{line_is}
use Rattle.teg_calc.proofs.printing.print.Goals as goal

pub returns : goal.returns
returns c =
    let bytes : c.into_bytes.result.items ≡ string_bytes c.write.new.self = search rules in
    let step = same_number c.step-step.result (omega (arith, c.step-step.ensures.series.small.step, ap unsigned_abs c.step-step.ensures.value)) in
    let ends = λ (z : ℤ). codes " period " ++ (decimal c.period-period.result ++ (codes " step " ++ (signed_decimal z ++ (10 ∷ [])))) in
    bytes ∙ (c.in_ok-write.ensures.bytes
    ∙ (ap (λ (t : List ℕ). t ++ ends (to_z w128 (of_z w128 c.step-step.result)))
    (c.in_ok-push_dates.ensures.text ∙ ap (λ (t : List ℕ). t ++ flat_map (λ date. 32 ∷ date_word date) c.values.result.now) c.in_ok-text.ensures.ok)
    ∙ (ap (λ (z : ℤ). (codes "series" ++ flat_map (λ date. 32 ∷ date_word date) c.values.result.now) ++ ends z) step
    ∙ rw (c.values.ensures.value, c.period-period.ensures.value, c.step-step.ensures.value) (line_is c.args.series.now.values c.args.series.now.period c.args.series.now.step))))
