use Rattle.std.proofs.Common.{rules, ◌≡◌, Bor, List, ℕ, Some, map, sym, ◌∙◌, arith}
use Rattle.std.proofs.lemmas.List.{length-map}
use Rattle.dating_check.proofs.table_lines.begins_line.Goals as goal

pub returns : goal.returns
returns c =
    let words : List (List ℕ) = map (λ x. x.now) c.args.words.now in
    let long = length-map c.args.words.now (λ (x : Bor (List ℕ)). x.now) in
    let first : c.text_at-first.result.now ≡ c.args.role.now = search rules in
    let second : c.text_at-second.result.now ≡ c.args.name.now = search rules in
    let reads = c.in_ok-told.ensures c.args.number (omega arith) in (
      λ yes. (let told : c.in_ok-told.told ≡ Some c.args.number = search rules in
          record {
            long = omega (arith, long, c.if-words-lt3.false);
            role_is = sym c.text_at-first.ensures ∙ first;
            name_is = sym c.text_at-second.ensures ∙ second;
            number_is = sym c.text_at-third.ensures ∙ reads.0 told;
          }),
      λ h. (let told : c.in_ok-told.told ≡ Some c.args.number = reads.1 (c.text_at-third.ensures ∙ h.number_is) in search rules),
    )
