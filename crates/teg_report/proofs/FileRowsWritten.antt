-- Lines of monitors as their parts.
use Rattle.std.proofs.Common.{◌≡◌, ℕ, ◌+◌, ◌<◌, ◌≤◌, List, [], ◌∷◌, ◌++◌, refl, sym, ap, ◌∙◌, map, take, length, get_or}
use Rattle.std.specs.List.{flat_map}
use Rattle.std.proofs.lemmas.List.{take_all}
use Rattle.std.proofs.lemmas.Simd.{map-map}
use Rattle.teg_text.specs.Lines.{phrase, further_then, line_then, written}
use Rattle.teg_text.proofs.Joining.{phrase_behind, lines_end, phrase_some}
use Rattle.teg_text.proofs.Listing.{more_items}

-- a line that is a phrase
line_of : (line : List (List ℕ)) (word text : List ℕ) (words : List (List ℕ)) → line ≡ word ∷ words → further_then line [] ≡ 32 ∷ text → line_then line [] ≡ text
line_of line word text words e h =
    let whole : 32 ∷ (word ++ further_then words []) ≡ 32 ∷ text = rw e at h in
    let same : word ++ further_then words [] ≡ text = cc in
    rw e same

pub phrase_line : (text : List ℕ) → line_then (phrase text) [] ≡ text ++ 10 ∷ []
phrase_line text = let some = phrase_some text in line_of (phrase text) some.0 (text ++ 10 ∷ []) some.1 some.2 (phrase_behind text)

-- a line more
pub one_line_more : {S : Type 0} (g : S → List ℕ) (before text text' : List ℕ) (xs : List S) (i : ℕ) (d : S) → i < length xs → text' ≡ text ++ (g (get_or xs i d) ++ 10 ∷ []) →
    text ≡ before ++ flat_map (λ x. line_then (phrase (g x)) []) (take i xs) → text' ≡ before ++ flat_map (λ x. line_then (phrase (g x)) []) (take (i + 1) xs)
one_line_more g before text text' xs i d lt pushed h =
    more_items (λ x. line_then (phrase (g x)) []) before text text' xs xs i d refl lt (pushed ∙ ap (λ (l : List ℕ). text ++ l) (sym (phrase_line (g (get_or xs i d))))) h

pub all_lines : {S : Type 0} (g : S → List ℕ) (before text : List ℕ) (xs : List S) (i : ℕ) → length xs ≤ i → text ≡ before ++ flat_map (λ x. line_then (phrase (g x)) []) (take i xs) →
    text ≡ before ++ written (map phrase (map g xs))
all_lines g before text xs i le h =
    lines_end (λ x. phrase (g x)) xs before text (rw (take_all i xs le) at h) ∙ ap (λ (lines : List (List (List ℕ))). before ++ written lines) (sym (map-map phrase g xs))
