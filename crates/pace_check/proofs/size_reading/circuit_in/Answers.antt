use Rattle.std.proofs.Common.{Bor, ◌≡◌, List, ℕ, map, drop, ap, ◌∙◌}
use Rattle.teg_text.specs.Lines.{phrase}
use Rattle.pace_check.proofs.SizeTexts.{circuit_read}
use Rattle.pace_check.proofs.size_reading.circuit_in.Goals as goal

pub returns : goal.returns
returns c =
    let words : map (λ (x : Bor (List ℕ)). x.now) c.deref.result.now ≡ phrase c.args.line.now =
    ap (λ (l : List (Bor (List ℕ))). map (λ (x : Bor (List ℕ)). x.now) l) c.deref.ensures.value ∙ c.in_ok-words.ensures in
    let names : map (λ (x : Bor (List ℕ)). x.now) c.words_behind.result.now ≡ drop 1 (phrase c.args.line.now) = c.words_behind.ensures ∙ ap (λ (ws : List (List ℕ)). drop 1 ws) words in
    circuit_read c.args.net.now (phrase c.args.line.now) _ c.rules.ensures (rw names at c.in_ok-found.ensures)
