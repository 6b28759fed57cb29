-- A text as lines of words. Words are separated by one blank, and each line ends with a line feed.
use Rattle.std.specs.Prelude.{ℕ, Bool, false, not, ◌&&◌, ◌==◌, List, [], ◌∷◌, ◌++◌, if◌then◌else◌}
use Rattle.std.specs.List.{list_all}

-- a byte that a word may have: neither a blank nor a line feed
abbrev pub is_word_byte : ℕ → Bool
is_word_byte byte = not (byte == 32) && not (byte == 10)

-- the byte before the first of these words
abbrev pub byte_before : ℕ → List (List ℕ) → List (List ℕ)
byte_before byte [] = (byte ∷ []) ∷ []
byte_before byte (word ∷ words) = (byte ∷ word) ∷ words

-- the words of a phrase: what stands before, between and behind its blanks
abbrev pub phrase : List ℕ → List (List ℕ)
phrase [] = [] ∷ []
phrase (byte ∷ bytes) = if byte == 32 then [] ∷ phrase bytes else byte_before byte (phrase bytes)

-- further words of a line, each behind a blank, then its line feed, then what follows
abbrev pub further_then : List (List ℕ) → List ℕ → List ℕ
further_then [] rest = 10 ∷ rest
further_then (word ∷ words) rest = 32 ∷ (word ++ further_then words rest)

-- the line of these words, then what follows
abbrev pub line_then : List (List ℕ) → List ℕ → List ℕ
line_then [] rest = 10 ∷ rest
line_then (word ∷ words) rest = word ++ further_then words rest

-- the text of these lines
abbrev pub written : List (List (List ℕ)) → List ℕ
written [] = []
written (line ∷ lines) = line_then line (written lines)

-- a word: it has no blank and no line feed
abbrev pub is_word : List ℕ → Bool
is_word word = list_all is_word_byte word

-- a line: words, of which there is one at least
abbrev pub is_line : List (List ℕ) → Bool
is_line [] = false
is_line (word ∷ words) = list_all is_word (word ∷ words)

-- lines, of which each has a word
abbrev pub are_lines : List (List (List ℕ)) → Bool
are_lines lines = list_all is_line lines
