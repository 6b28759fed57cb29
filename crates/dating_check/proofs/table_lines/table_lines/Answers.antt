use Rattle.std.proofs.Common.{rules, ◌≡◌, ◌+◌, ◌*◌, Bor, List, ℕ, [], ◌∷◌, length, map, sym, ap, ◌∙◌, arith}
use Rattle.std.proofs.lemmas.Bool.{iff_false}
use Rattle.std.proofs.lemmas.List.{length-map}
use Rattle.teg_text.specs.Lines.{phrase, written}
use Rattle.word_lines.specs.WordLines.{IsTextOf}
use Rattle.dating_check.specs.TableReading.{AreTableLines, words_behind}
use Rattle.dating_check.specs.TableTexts.{IsTableText, table_head}
use Rattle.dating_check.proofs.TableLines.{none_headed, none_lines, none_long, table_is_text, table_read}
use Rattle.dating_check.proofs.table_lines.table_lines.Goals as goal

pub returns-in_default : goal.returns-in_default
returns-in_default c = λ numbers words h. (let none = rw c.in_default.is at c.in_ok-read.ensures in none _ (table_is_text c.args.net.now c.args.text.now numbers words c.rules.ensures h))

pub returns-in_default-numbers_of : goal.returns-in_default-numbers_of
returns-in_default-numbers_of c =
    let lines : List (List ℕ) = map (λ x. x.now) c.as_slice-lines.result.now in
    let text : IsTextOf c.args.text.now (map phrase (map (λ x. x.now) c.in-Some.read.items)) = rw c.in-Some.is at c.in_ok-read.ensures in
    let read : IsTextOf c.args.text.now (map phrase lines) = rw c.as_slice-lines.ensures.value text in
    let long = length-map c.as_slice-lines.result.now (λ (x : Bor (List ℕ)). x.now) in
    let wide = ap length c.transitions.ensures.value in
    none_long c.args.net.now c.args.text.now lines c.rules.ensures read (λ n few is. c.in_default-numbers_of.ensures n few (sym long ∙ (is ∙ ap (λ (m : ℕ). 1 + m * n) (sym wide))))

pub returns-then-not-branch : goal.returns-then-not-branch
returns-then-not-branch c =
    let lines : List (List ℕ) = map (λ x. x.now) c.as_slice-lines.result.now in
    let n = c.in-Some-numbers_of.numbers in
    let text : IsTextOf c.args.text.now (map phrase (map (λ x. x.now) c.in-Some.read.items)) = rw c.in-Some.is at c.in_ok-read.ensures in
    let read : IsTextOf c.args.text.now (map phrase lines) = rw c.as_slice-lines.ensures.value text in
    let long : length lines ≡ 1 + length c.args.net.now.transitions * n = length-map c.as_slice-lines.result.now (λ (x : Bor (List ℕ)). x.now) ∙ rw (ap length c.transitions.ensures.value) at c.in-Some-numbers_of.ensures in
    let told : written (phrase c.text_at-first.result.now ∷ []) ≡ written (table_head n ∷ []) → ⊥ = iff_false c.in_ok-is_headed.ensures (search rules) in
    none_headed c.args.net.now c.args.text.now lines n c.rules.ensures read long (rw c.text_at-first.ensures at told)

pub returns-then-not-branch-2 : goal.returns-then-not-branch-2
returns-then-not-branch-2 c =
    let lines : List (List ℕ) = map (λ x. x.now) c.as_slice-lines.result.now in
    let n = c.in-Some-numbers_of.numbers in
    let text : IsTextOf c.args.text.now (map phrase (map (λ x. x.now) c.in-Some.read.items)) = rw c.in-Some.is at c.in_ok-read.ensures in
    let read : IsTextOf c.args.text.now (map phrase lines) = rw c.as_slice-lines.ensures.value text in
    let long : length lines ≡ 1 + length c.args.net.now.transitions * n = length-map c.as_slice-lines.result.now (λ (x : Bor (List ℕ)). x.now) ∙ rw (ap length c.transitions.ensures.value) at c.in-Some-numbers_of.ensures in
    none_lines c.args.net.now c.args.text.now lines n c.rules.ensures read long (iff_false c.in_ok-are_table_lines.ensures (search rules))

pub returns : goal.returns
returns c =
    let lines : List (List ℕ) = map (λ x. x.now) c.as_slice-lines.result.now in
    let net = c.args.net.now in
    let n = c.in-Some-numbers_of.numbers in
    let text : IsTextOf c.args.text.now (map phrase (map (λ x. x.now) c.in-Some.read.items)) = rw c.in-Some.is at c.in_ok-read.ensures in
    let read : IsTextOf c.args.text.now (map phrase lines) = rw c.as_slice-lines.ensures.value text in
    let long : length lines ≡ 1 + length net.transitions * n = length-map c.as_slice-lines.result.now (λ (x : Bor (List ℕ)). x.now) ∙ rw (ap length c.transitions.ensures.value) at c.in-Some-numbers_of.ensures in
    let told : written (phrase c.text_at-first.result.now ∷ []) ≡ written (table_head n ∷ []) = c.in_ok-is_headed.ensures.0 (search rules) in
    let each : AreTableLines net lines n = c.in_ok-are_table_lines.ensures.0 (search rules) in
    let all : IsTableText net c.args.text.now n (words_behind lines n) = table_read net c.args.text.now n lines c.rules.ensures (omega arith) read long (rw c.text_at-first.ensures at told) each in
    rw c.as_slice-lines.ensures.value at all
