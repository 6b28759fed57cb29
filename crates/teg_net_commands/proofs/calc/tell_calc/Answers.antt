use Rattle.std.proofs.Common.{rules, ◌≡◌, ℕ, List, Err, subst, inl, inr}
use Rattle.teg_calc.specs.ParseAnswers.{IsParsed, IsParseOf}
use Rattle.teg_calc.specs.ExpressionTrees.{tree_of_expression}
use Rattle.teg_outcome.proofs.Telling.{tells_weaker}
use Rattle.teg_net_commands.proofs.calc.tell_calc.Goals as goal

pub returns-in-Ok : goal.returns-in-Ok
returns-in-Ok c =
    let same : c.as_bytes.result.now ≡ c.args.expression.now = search rules in
    let parsed = subst (λ (bytes : List ℕ). IsParsed bytes (tree_of_expression c.in-Ok.expr)) same c.in-Ok.ensures.answer in
    tells_weaker _ _ _ (λ verdict text h. inl (tree_of_expression c.in-Ok.expr, parsed, h)) c.tell_series.ensures

pub returns-in-Err : goal.returns-in-Err
returns-in-Err c =
    let same : c.as_bytes.result.now ≡ c.args.expression.now = search rules in
    let parsed = subst (λ (bytes : List ℕ). IsParseOf bytes (Err c.in-Err.refusal)) same c.in-Err.ensures.answer in
    tells_weaker _ _ _ (λ verdict text h. inr (c.in-Err.refusal, parsed, h)) c.refuse_text.ensures
