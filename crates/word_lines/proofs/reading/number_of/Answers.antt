use Rattle.std.proofs.Common.{rules, ◌≡◌, ◌<◌, ◌^◌, ℕ, Some, None, Ok, sym, ◌∙◌, ap, arith, string_bytes}
use Rattle.std.specs.Fmt.{decimal}
use Rattle.std.proofs.lemmas.Fmt.{parse-decimal_wide}
use Rattle.word_lines.proofs.reading.number_of.Goals as goal

pub returns-in_default : goal.returns-in_default
returns-in_default c = λ n few. (λ e. (cc), λ e. let read = parse-decimal_wide 128 n c.args.word.now c.parse.result few (omega (arith, few)) e c.parse.ensures.value.0 in (cc))

pub returns-then-eq : goal.returns-then-eq
returns-then-eq c = λ n few. (
  λ e. (let is : c.in-Ok.number ≡ n = cc in
      let same : c.as_str.result.now ≡ c.args.word.now = search rules in
      let printed : c.as_str.result.now ≡ decimal c.in-Ok.number = search rules in
      sym same ∙ (printed ∙ ap decimal is)),
  λ e. let read = parse-decimal_wide 128 n c.args.word.now c.parse.result few (omega (arith, few)) e c.parse.ensures.value.0 in (cc),
)

pub returns-else-eq : goal.returns-else-eq
returns-else-eq c = λ n few. (
  λ e. (cc),
  λ e. let read = parse-decimal_wide 128 n c.args.word.now c.parse.result few (omega (arith, few)) e c.parse.ensures.value.0 in
      let is : c.in-Ok.number ≡ n = cc in
      let printed : c.as_str.result.now ≡ decimal c.in-Ok.number = search rules in
      let other : c.as_str.result.now ≡ c.args.word.now → ⊥ = search rules in
      absurd (other (printed ∙ (ap decimal is ∙ sym e))),
)
