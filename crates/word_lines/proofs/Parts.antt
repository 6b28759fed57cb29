-- The parts of a text between line feeds are its lines, and those of a line between blanks are its words.
use Rattle.std.proofs.Common.{◌≡◌, ℕ, Bool, true, false, not, ◌==◌, ⊎_elim, List, [], ◌∷◌, ◌++◌, map, refl, sym, ap, ◌∙◌, append-nil, append_assoc}
use Rattle.std.proofs.lemmas.Bool.{and_parts, and_from, cases_Bool, eqb-true}
use Rattle.std.specs.List.{list_all, onto_first, slice_split}
use Rattle.teg_text.specs.Lines.{are_lines, byte_before, further_then, is_line, line_then, phrase, written}
use Rattle.teg_text.proofs.Joining.{further_phrase, phrase_some}
use Rattle.teg_text.proofs.Phrases.{phrase_is_line}
use Rattle.word_lines.specs.WordLines.{IsTextOf}

-- ---- words

onto_same : (x : ℕ) (parts : List (List ℕ)) → onto_first x parts ≡ byte_before x parts
onto_same x [] = refl
onto_same x (part ∷ parts) = refl

pub split_phrase : (line : List ℕ) → slice_split (λ b. b == 32) line ≡ phrase line
split_phrase [] = refl
split_phrase (x ∷ xs) = rw (split_phrase xs, onto_same x (phrase xs)) refl

-- ---- lines

-- words behind a blank, without it
behind_blank : (word : List ℕ) (words : List (List ℕ)) (line rest : List ℕ) → 32 ∷ (word ++ further_then (words ++ []) rest) ≡ 32 ∷ (line ++ 10 ∷ rest) → line_then (word ∷ words) rest ≡ line ++ 10 ∷ rest
behind_blank word words line rest h =
    let same : word ++ further_then (words ++ []) rest ≡ line ++ 10 ∷ rest = cc in
    ap (λ (ws : List (List ℕ)). word ++ further_then ws rest) (sym (append-nil words)) ∙ same

-- the line of the words of a line
pub line_phrase : (line rest : List ℕ) → line_then (phrase line) rest ≡ line ++ 10 ∷ rest
line_phrase line rest =
    let some = phrase_some line in
    let whole : further_then (phrase line ++ []) rest ≡ 32 ∷ (line ++ 10 ∷ rest) = further_phrase line [] rest in
    rw some.2 (behind_blank some.0 some.1 line rest (rw some.2 at whole))

abbrev is_feed : ℕ → Bool
is_feed byte = byte == 10

abbrev is_inner : List ℕ → Bool
is_inner line = list_all (λ b. not (b == 10)) line

-- the parts are some
split_some : (body : List ℕ) → (part : List ℕ) × (parts : List (List ℕ)) × (slice_split is_feed body ≡ part ∷ parts)
split_some [] = ([], [], refl)
split_some (x ∷ xs) =
    let some = split_some xs in
    ⊎_elim
    (λ (e : (x == 10) ≡ true). rw e ([], slice_split is_feed xs, refl))
    (λ (e : (x == 10) ≡ false). rw e (rw some.2 (x ∷ some.0, some.1, refl)))
    (cases_Bool (x == 10))

onto_written : (x : ℕ) (part : List ℕ) (parts : List (List ℕ)) (whole : List ℕ) → written (map phrase (part ∷ parts)) ≡ whole → written (map phrase (onto_first x (part ∷ parts))) ≡ x ∷ whole
onto_written x part parts whole h =
    line_phrase (x ∷ part) (written (map phrase parts)) ∙ ap (λ (l : List ℕ). x ∷ l) (sym (line_phrase part (written (map phrase parts))) ∙ h)

-- written with line feeds they are the text
pub split_written : (body : List ℕ) → written (map phrase (slice_split is_feed body)) ≡ body ++ 10 ∷ []
split_written [] = refl
split_written (x ∷ xs) =
    let some = split_some xs in
    let below = split_written xs in
    ⊎_elim
    (λ (e : (x == 10) ≡ true). rw e (ap (λ (l : List ℕ). 10 ∷ l) below ∙ ap (λ (b : ℕ). b ∷ (xs ++ 10 ∷ [])) (sym (eqb-true x 10 e))))
    (λ (e : (x == 10) ≡ false). rw e (rw some.2 (onto_written x some.0 some.1 (xs ++ 10 ∷ []) (rw some.2 at below))))
    (cases_Bool (x == 10))

onto_inner : (x : ℕ) (parts : List (List ℕ)) → (x == 10) ≡ false → list_all is_inner parts ≡ true → list_all is_inner (onto_first x parts) ≡ true
onto_inner x [] e h = rw e refl
onto_inner x (part ∷ parts) e h = rw e h

-- no part has a line feed
split_inner : (body : List ℕ) → list_all is_inner (slice_split is_feed body) ≡ true
split_inner [] = refl
split_inner (x ∷ xs) =
    ⊎_elim
    (λ (e : (x == 10) ≡ true). rw e (split_inner xs))
    (λ (e : (x == 10) ≡ false). rw e (onto_inner x (slice_split is_feed xs) e (split_inner xs)))
    (cases_Bool (x == 10))

inner_are_lines : (parts : List (List ℕ)) → list_all is_inner parts ≡ true → are_lines (map phrase parts) ≡ true
inner_are_lines [] h = refl
inner_are_lines (part ∷ parts) h =
    let both = and_parts (is_inner part) (list_all is_inner parts) h in
    and_from (is_line (phrase part)) (are_lines (map phrase parts)) (phrase_is_line part both.0) (inner_are_lines parts both.1)

pub parts_are_lines : (body text : List ℕ) → text ≡ body ++ 10 ∷ [] → IsTextOf text (map phrase (slice_split (λ b. b == 10) body))
parts_are_lines body text e = record {
  are = inner_are_lines (slice_split is_feed body) (split_inner body);
  told = e ∙ sym (split_written body);
}

-- ---- the last line feed

further_ends : (words : List (List ℕ)) (rest front : List ℕ) → rest ≡ front ++ 10 ∷ [] → (before : List ℕ) × (further_then words rest ≡ before ++ 10 ∷ [])
further_ends [] rest front e = (10 ∷ front, ap (λ (l : List ℕ). 10 ∷ l) e)
further_ends (word ∷ words) rest front e =
    let more = further_ends words rest front e in
    (32 ∷ (word ++ more.0), ap (λ (l : List ℕ). 32 ∷ (word ++ l)) more.1 ∙ ap (λ (l : List ℕ). 32 ∷ l) (sym (append_assoc word more.0 (10 ∷ []))))

further_alone : (words : List (List ℕ)) → (before : List ℕ) × (further_then words [] ≡ before ++ 10 ∷ [])
further_alone [] = ([], refl)
further_alone (word ∷ words) =
    let more = further_alone words in
    (32 ∷ (word ++ more.0), ap (λ (l : List ℕ). 32 ∷ (word ++ l)) more.1 ∙ ap (λ (l : List ℕ). 32 ∷ l) (sym (append_assoc word more.0 (10 ∷ []))))

word_ends : (word tail : List ℕ) → (before : List ℕ) × (tail ≡ before ++ 10 ∷ []) → (before : List ℕ) × (word ++ tail ≡ before ++ 10 ∷ [])
word_ends word tail more = (word ++ more.0, ap (λ (l : List ℕ). word ++ l) more.1 ∙ sym (append_assoc word more.0 (10 ∷ [])))

line_ends : (line : List (List ℕ)) (rest front : List ℕ) → rest ≡ front ++ 10 ∷ [] → (before : List ℕ) × (line_then line rest ≡ before ++ 10 ∷ [])
line_ends [] rest front e = (10 ∷ front, ap (λ (l : List ℕ). 10 ∷ l) e)
line_ends (word ∷ words) rest front e = word_ends word (further_then words rest) (further_ends words rest front e)

line_alone : (line : List (List ℕ)) → (before : List ℕ) × (line_then line [] ≡ before ++ 10 ∷ [])
line_alone [] = ([], refl)
line_alone (word ∷ words) = word_ends word (further_then words []) (further_alone words)

-- lines end with a line feed
pub written_ends : (line : List (List ℕ)) (lines : List (List (List ℕ))) → (before : List ℕ) × (written (line ∷ lines) ≡ before ++ 10 ∷ [])
written_ends line [] = line_alone line
written_ends line (next ∷ lines) = let more = written_ends next lines in line_ends line (written (next ∷ lines)) more.0 more.1

-- a text that does not is that of no lines
pub no_lines : (text : List ℕ) → (text ≡ [] → ⊥) → ((front : List ℕ) → text ≡ front ++ 10 ∷ [] → ⊥) → (lines : List (List (List ℕ))) → IsTextOf text lines → ⊥
no_lines text some none [] h = some h.told
no_lines text some none (line ∷ lines) h = let ends = written_ends line lines in none ends.0 (h.told ∙ ends.1)
