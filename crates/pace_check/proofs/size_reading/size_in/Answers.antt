use Rattle.std.proofs.Common.{Bor, ◌≡◌, List, ℕ, [], map, slice_index_or, ap, sym, subst, ◌∙◌}
use Rattle.teg_text.specs.Lines.{phrase}
use Rattle.word_lines.specs.WordLines.{IsTextOf}
use Rattle.pace_check.specs.SizeReading.{ReadsSize}
use Rattle.pace_check.proofs.SizeTexts.{no_lines_read, size_read}
use Rattle.pace_check.proofs.size_reading.size_in.Goals as goal

pub returns-in_default : goal.returns-in_default
returns-in_default c = no_lines_read c.args.net.now c.args.text.now c.rules.ensures (rw c.in_default.is at c.in_ok-lines.ensures)

pub returns : goal.returns
returns c =
    let net = c.args.net.now in
    let text = c.args.text.now in
    let lines : List (List ℕ) = map (λ x. x.now) c.in-Some.lines.items in
    let read : IsTextOf text (map phrase lines) = rw c.in-Some.is at c.in_ok-lines.ensures in
    let first : c.text_at.result.now ≡ slice_index_or lines 0 [] =
    c.text_at.ensures ∙ ap (λ (l : List (Bor (List ℕ))). slice_index_or (map (λ (x : Bor (List ℕ)). x.now) l) 0 []) c.deref.ensures.value in
    let words : map (λ (x : Bor (List ℕ)). x.now) c.deref-2.result.now ≡ phrase (slice_index_or lines 0 []) =
    ap (λ (l : List (Bor (List ℕ))). map (λ (x : Bor (List ℕ)). x.now) l) c.deref-2.ensures.value ∙ (c.in_ok-words.ensures ∙ ap phrase first) in
    let all : map (λ (x : Bor (List ℕ)). x.now) c.deref-3.result.now ≡ lines = ap (λ (l : List (Bor (List ℕ))). map (λ (x : Bor (List ℕ)). x.now) l) c.deref-3.ensures.value in
    subst (ReadsSize net text) (sym c.size_of.ensures)
    (size_read net text lines _ _ c.rules.ensures read (rw words at c.first_in-first.ensures) (rw all at c.in_ok-places.ensures))
