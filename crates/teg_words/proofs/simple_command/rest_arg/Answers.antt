use Rattle.std.proofs.Common.{ap, ap₂, Some, None, Option, IsSomeAnd, ◌≡◌, ◌∙◌}
use Rattle.clap.specs.Words.{Rule, rule_of}
use Rattle.clap.specs.Lexer.{usize_max}
use Rattle.clap.specs.declared.builder.range.ValueRange.{ValueRange}
use Rattle.teg_words.proofs.simple_command.rest_arg.Goals as goal

abbrev with_values : Rule → Option ValueRange → Rule
with_values r o = record r { range = o }

is_that : {X : Type 0} (o : Option X) (P : X → Type 0) (v : X) → ((x : X) → P x → x ≡ v) → IsSomeAnd o P → o ≡ Some v
is_that None P v h p = absurd p
is_that (Some x) P v h p = ap Some (h x p)

pub returns-clause-rule : goal.returns-clause-rule
returns-clause-rule c =
    let any_number : c.num_args.result.num_vals ≡ Some (record { start_inclusive = 0; end_inclusive = usize_max }) = is_that c.num_args.result.num_vals _ _ (λ v h. h) c.num_args.ensures.1 in
    ap rule_of c.num_args.ensures.0 ∙ ap₂ with_values c.new.ensures.rule any_number
