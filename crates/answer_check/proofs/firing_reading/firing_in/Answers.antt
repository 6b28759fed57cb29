use Rattle.std.proofs.Common.{rules, Bor, ◌≡◌, List, ℕ, [], length, map, slice_index_or, ap, sym, ◌∙◌}
use Rattle.std.proofs.lemmas.Bool.{iff_false}
use Rattle.std.proofs.lemmas.List.{length-map}
use Rattle.teg_text.specs.Lines.{phrase}
use Rattle.word_lines.specs.WordLines.{IsTextOf}
use Rattle.answer_check.proofs.Firings.{firing_is_text, firing_read, not_one}
use Rattle.answer_check.proofs.firing_reading.firing_in.Goals as goal

pub returns-in_default : goal.returns-in_default
returns-in_default c = λ t k word small h.
    (let none = rw c.in_default.is at c.in_ok-lines.ensures in none _ (firing_is_text c.args.net.now c.args.text.now t k word c.rules.ensures h))

pub returns-then-not-has : goal.returns-then-not-has
returns-then-not-has c =
    let lines : List (List ℕ) = map (λ x. x.now) c.in-Some.lines.items in
    let read : IsTextOf c.args.text.now (map phrase lines) = rw c.in-Some.is at c.in_ok-lines.ensures in
    let long : length lines ≡ length c.in-Some.lines.items = length-map c.in-Some.lines.items (λ (x : Bor (List ℕ)). x.now) in
    not_one c.args.net.now c.args.text.now lines c.rules.ensures read
    (λ e. iff_false c.has.ensures c.if-not-has.true (ap (λ (l : List (Bor (List ℕ))). length l) c.deref.ensures.value ∙ (sym long ∙ e)))

pub returns : goal.returns
returns c =
    let lines : List (List ℕ) = map (λ x. x.now) c.in-Some.lines.items in
    let read : IsTextOf c.args.text.now (map phrase lines) = rw c.in-Some.is at c.in_ok-lines.ensures in
    let long : length lines ≡ length c.in-Some.lines.items = length-map c.in-Some.lines.items (λ (x : Bor (List ℕ)). x.now) in
    let one : length lines ≡ 1 = long ∙ (sym (ap (λ (l : List (Bor (List ℕ))). length l) c.deref.ensures.value) ∙ c.has.ensures.0 (search rules)) in
    let first : c.text_at.result.now ≡ slice_index_or lines 0 [] = c.text_at.ensures ∙ ap (λ (l : List (Bor (List ℕ))). slice_index_or (map (λ (x : Bor (List ℕ)). x.now) l) 0 []) c.deref-2.ensures.value in
    let words : map (λ (x : Bor (List ℕ)). x.now) c.deref-3.result.now ≡ phrase (slice_index_or lines 0 []) =
    ap (λ (l : List (Bor (List ℕ))). map (λ (x : Bor (List ℕ)). x.now) l) c.deref-3.ensures.value ∙ (c.in_ok-words.ensures ∙ ap phrase first) in
    firing_read c.args.net.now c.args.text.now lines _ c.rules.ensures read one (rw words at c.in_ok-found.ensures)
