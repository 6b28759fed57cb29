use Rattle.std.proofs.Common.{Bor, ◌≡◌, ◌==◌, [], List, ℕ, false, length, map, drop, get_or, sym, ap, ◌∙◌, rules}
use Rattle.std.proofs.lemmas.Bool.{eqb-false}
use Rattle.teg_text.specs.Lines.{phrase}
use Rattle.witness_check.proofs.NamedPlaces.{empty_first, none_long, named_of_each, words_of_names}
use Rattle.witness_check.proofs.names.places_named.Goals as goal

pub returns-then-not-is_empty : goal.returns-then-not-is_empty
returns-then-not-is_empty c = λ ps h.
    let text = c.args.words.now in
    let words : map (λ (x : Bor (List ℕ)). x.now) c.deref.result.now ≡ phrase text =
    ap (λ (l : List (Bor (List ℕ))). map (λ (x : Bor (List ℕ)). x.now) l) c.deref.ensures.value ∙ c.in_ok-names.ensures in
    let first : c.text_at.result.now ≡ [] =
    c.text_at.ensures ∙ ap (λ (ws : List (List ℕ)). get_or ws 0 []) (words ∙ words_of_names c.args.net.now text ps c.rules.ensures h) in
    let some : (length c.text_at.result.now == 0) ≡ false = sym c.is_empty.ensures ∙ c.if-not-is_empty.true in
    eqb-false (length c.text_at.result.now) 0 some (ap (λ (w : List ℕ). length w) first)

pub returns : goal.returns
returns c =
    let text = c.args.words.now in
    let words : map (λ (x : Bor (List ℕ)). x.now) c.deref.result.now ≡ phrase text =
    ap (λ (l : List (Bor (List ℕ))). map (λ (x : Bor (List ℕ)). x.now) l) c.deref.ensures.value ∙ c.in_ok-names.ensures in
    let none : length c.text_at.result.now ≡ 0 = search rules in
    let first : c.text_at.result.now ≡ [] = none_long c.text_at.result.now none in
    let empty : get_or (phrase text) 0 [] ≡ [] = ap (λ (ws : List (List ℕ)). get_or ws 0 []) (sym words) ∙ (sym c.text_at.ensures ∙ first) in
    let again : map (λ (x : Bor (List ℕ)). x.now) c.deref-2.result.now ≡ phrase text =
    ap (λ (l : List (Bor (List ℕ))). map (λ (x : Bor (List ℕ)). x.now) l) c.deref-2.ensures.value ∙ c.in_ok-names.ensures in
    let names : map (λ (x : Bor (List ℕ)). x.now) c.words_behind.result.now ≡ drop 1 (phrase text) = c.words_behind.ensures ∙ ap (λ (ws : List (List ℕ)). drop 1 ws) again in
    named_of_each c.args.net.now text (drop 1 (phrase text)) _ c.rules.ensures (empty_first text empty) (rw names at c.in_ok-found.ensures)
