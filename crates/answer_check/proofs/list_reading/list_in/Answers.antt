use Rattle.std.proofs.Common.{rules, ◌≡◌, ◌+◌, Bor, List, ℕ, [], ◌∷◌, length, map, sym, ap, ◌∙◌}
use Rattle.std.proofs.lemmas.Bool.{iff_false}
use Rattle.std.proofs.lemmas.List.{length-map}
use Rattle.teg_text.specs.Lines.{phrase, written}
use Rattle.word_lines.specs.WordLines.{IsTextOf}
use Rattle.answer_check.proofs.ListLines.{head_lines, list_is_text, list_read, none_headed, none_long, none_rows}
use Rattle.answer_check.proofs.list_reading.list_in.Goals as goal

pub returns-in_default : goal.returns-in_default
returns-in_default c = λ count words h. (let none = rw c.in_default.is at c.in_ok-read.ensures in none _ (list_is_text c.args.net.now c.args.text.now count words c.rules.ensures h))

pub returns-in_default-rows_behind : goal.returns-in_default-rows_behind
returns-in_default-rows_behind c =
    let lines : List (List ℕ) = map (λ x. x.now) c.as_slice-lines.result.now in
    let text : IsTextOf c.args.text.now (map phrase (map (λ x. x.now) c.in-Some.read.items)) = rw c.in-Some.is at c.in_ok-read.ensures in
    let read : IsTextOf c.args.text.now (map phrase lines) = rw c.as_slice-lines.ensures.value text in
    let long = length-map c.as_slice-lines.result.now (λ (x : Bor (List ℕ)). x.now) in
    none_long c.args.net.now c.args.text.now lines c.rules.ensures read (λ count few is. c.in_default-rows_behind.ensures count few (sym long ∙ is))

pub rows_in-requires : goal.rows_in-requires
rows_in-requires c = c.in-Some-rows_behind.ensures.1

pub returns-then-not-branch : goal.returns-then-not-branch
returns-then-not-branch c =
    let lines : List (List ℕ) = map (λ x. x.now) c.as_slice-lines.result.now in
    let n = c.in-Some-rows_behind.count in
    let text : IsTextOf c.args.text.now (map phrase (map (λ x. x.now) c.in-Some.read.items)) = rw c.in-Some.is at c.in_ok-read.ensures in
    let read : IsTextOf c.args.text.now (map phrase lines) = rw c.as_slice-lines.ensures.value text in
    let long : length lines ≡ n + 2 = length-map c.as_slice-lines.result.now (λ (x : Bor (List ℕ)). x.now) ∙ c.in-Some-rows_behind.ensures.1 in
    let told : written (phrase c.text_at-first.result.now ∷ phrase c.text_at-second.result.now ∷ []) ≡ written (head_lines c.args.net.now n) → ⊥ = iff_false c.in_ok-is_headed.ensures (search rules) in
    none_headed c.args.net.now c.args.text.now lines n c.rules.ensures read long (rw (c.text_at-first.ensures, c.text_at-second.ensures) at told)

pub returns-in-Some-2 : goal.returns-in-Some-2
returns-in-Some-2 c =
    let lines : List (List ℕ) = map (λ x. x.now) c.as_slice-lines.result.now in
    let net = c.args.net.now in
    let n = c.in-Some-rows_behind.count in
    let text : IsTextOf c.args.text.now (map phrase (map (λ x. x.now) c.in-Some.read.items)) = rw c.in-Some.is at c.in_ok-read.ensures in
    let read : IsTextOf c.args.text.now (map phrase lines) = rw c.as_slice-lines.ensures.value text in
    let long : length lines ≡ n + 2 = length-map c.as_slice-lines.result.now (λ (x : Bor (List ℕ)). x.now) ∙ c.in-Some-rows_behind.ensures.1 in
    let told : written (phrase c.text_at-first.result.now ∷ phrase c.text_at-second.result.now ∷ []) ≡ written (head_lines net n) = c.in_ok-is_headed.ensures.0 (search rules) in
    list_read net c.args.text.now lines n c.in-Some-2.dates.items c.rules.ensures c.in-Some-rows_behind.ensures.0 read long (rw (c.text_at-first.ensures, c.text_at-second.ensures) at told)
    (rw (c.in-Some-2.is, ap length c.transitions.ensures.value) at c.in_ok-dates.ensures)

pub returns : goal.returns
returns c =
    let lines : List (List ℕ) = map (λ x. x.now) c.as_slice-lines.result.now in
    let n = c.in-Some-rows_behind.count in
    let text : IsTextOf c.args.text.now (map phrase (map (λ x. x.now) c.in-Some.read.items)) = rw c.in-Some.is at c.in_ok-read.ensures in
    let read : IsTextOf c.args.text.now (map phrase lines) = rw c.as_slice-lines.ensures.value text in
    let long : length lines ≡ n + 2 = length-map c.as_slice-lines.result.now (λ (x : Bor (List ℕ)). x.now) ∙ c.in-Some-rows_behind.ensures.1 in
    none_rows c.args.net.now c.args.text.now lines n c.rules.ensures read long (rw (c.in-None.is, ap length c.transitions.ensures.value) at c.in_ok-dates.ensures)
