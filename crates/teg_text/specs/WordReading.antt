-- How lines and words are read back. No text rests on these definitions: all that they say is that there are such functions.
use Rattle.std.specs.Prelude.{ℕ, ℤ, pos, negsuc, zero, suc, ◌+◌, ◌-◌, ◌*◌, ◌^◌, ◌<◌, Bool, true, false, ◌&&◌, ◌==◌, ◌≡◌, nat_le, List, [], ◌∷◌, drop, length, get_or, bytes_eq, if◌then◌else◌, take}
use Rattle.std.specs.List.{list_all}
use Rattle.std.specs.Fmt.{decimal}
use Rattle.std.specs.Str.Parse.{digits_value}
use Rattle.dioid.specs.declared.dates.Date.{Date}
use Rattle.dioid.specs.declared.dates.Date.TheVariants.{Early, At, Never}
use Rattle.teg_text.specs.Lines.{further_then, are_lines, written}
use Rattle.teg_text.specs.ValueWords.{AreBytes, IsDate, date_word, label_word, ratio_word}

-- a blank before lines begins a word
abbrev pub blank_onto : List (List (List ℕ)) → List (List (List ℕ))
blank_onto [] = ([] ∷ []) ∷ []
blank_onto (line ∷ lines) = ([] ∷ line) ∷ lines

-- a byte of a word goes on with the first word
abbrev pub word_byte_onto : ℕ → List (List (List ℕ)) → List (List (List ℕ))
word_byte_onto byte [] = ((byte ∷ []) ∷ []) ∷ []
word_byte_onto byte ([] ∷ lines) = ((byte ∷ []) ∷ []) ∷ lines
word_byte_onto byte ((word ∷ words) ∷ lines) = ((byte ∷ word) ∷ words) ∷ lines

-- a byte before lines; a line feed begins a line
abbrev pub byte_onto : ℕ → List (List (List ℕ)) → List (List (List ℕ))
byte_onto byte lines =
    if byte == 10 then ([] ∷ []) ∷ lines
    else if byte == 32 then blank_onto lines
    else word_byte_onto byte lines

-- the lines of a text
abbrev pub lines_in : List ℕ → List (List (List ℕ))
lines_in [] = []
lines_in (byte ∷ bytes) = byte_onto byte (lines_in bytes)

-- the line of this number, counted from 0
abbrev pub line_at : ℕ → List (List (List ℕ)) → List (List ℕ)
line_at i lines = get_or lines i []

-- the word of this number in a line
abbrev pub word : ℕ → List (List ℕ) → List ℕ
word i line = get_or line i []

-- whether the line has this word there
abbrev pub stands_at : ℕ → List (List ℕ) → List ℕ → Bool
stands_at i line text = bytes_eq (word i line) text

-- a decimal digit
abbrev pub is_digit : ℕ → Bool
is_digit byte = nat_le 48 byte && nat_le byte 57

-- digits, of which there is one at least
abbrev pub is_numeral : List ℕ → Bool
is_numeral [] = false
is_numeral (byte ∷ bytes) = is_digit byte && list_all is_digit bytes

-- the number that the digits write
abbrev pub number_in : List ℕ → ℕ
number_in word = digits_value 10 word

-- a number, with a minus sign where it is negative
abbrev pub signed_in : List ℕ → ℤ
signed_in word = if get_or word 0 0 == 45 then negsuc (number_in (drop 1 word) - 1) else pos (number_in word)

-- a date: no number begins with a letter
abbrev pub date_of_word : List ℕ → Date
date_of_word word = if nat_le 58 (get_or word 0 0) then (if get_or word 0 0 == 101 then Early else Never) else At (signed_in word)

-- what stands before the first slash: the time of a ratio
abbrev pub before_slash : List ℕ → List ℕ
before_slash [] = []
before_slash (byte ∷ bytes) = if byte == 47 then [] else byte ∷ before_slash bytes

-- what stands behind it: the tokens of a ratio
abbrev pub behind_slash : List ℕ → List ℕ
behind_slash [] = []
behind_slash (byte ∷ bytes) = if byte == 47 then bytes else behind_slash bytes

-- the value of a hexadecimal digit
abbrev pub hex_value : ℕ → ℕ
hex_value digit = if nat_le 97 digit then digit - 87 else digit - 48

-- the first byte of a label
abbrev pub first_byte : List ℕ → ℕ
first_byte word =
    if get_or word 0 0 == 0x5C then
    (if get_or word 1 0 == 0x5C then 0x5C else hex_value (get_or word 2 0) * 16 + hex_value (get_or word 3 0))
    else get_or word 0 0

-- how many bytes of the word tell it
abbrev pub first_length : List ℕ → ℕ
first_length word = if get_or word 0 0 == 0x5C then (if get_or word 1 0 == 0x5C then 2 else 4) else 1

-- the first n bytes of a label, as far as the word has them
abbrev pub bytes_in : ℕ → List ℕ → List ℕ
bytes_in zero word = []
bytes_in (suc n) [] = []
bytes_in (suc n) (byte ∷ word) = first_byte (byte ∷ word) ∷ bytes_in n (drop (first_length (byte ∷ word)) (byte ∷ word))

-- a label
abbrev pub label_in : List ℕ → List ℕ
label_in word = bytes_in (length word) word

-- things, each of a name: the number of the first that has this name
abbrev pub index_in : {X : Type 0} → (X → List ℕ) → List X → List ℕ → ℕ
index_in name [] word = 0
index_in name (x ∷ xs) word = if bytes_eq (name x) word then 0 else suc (index_in name xs word)

-- the phrase of which these are the words
abbrev pub phrase_in : List (List ℕ) → List ℕ
phrase_in words = take (length (further_then words []) - 2) (drop 1 (further_then words []))

-- lines of words are read back from their text
abbrev pub LinesAreRead : Type 0
LinesAreRead = (lines : List (List (List ℕ))) → are_lines lines ≡ true → lines_in (written lines) ≡ lines

-- numbers are read back, up to 64 digits
abbrev pub NumbersAreRead : Type 0
NumbersAreRead = (n : ℕ) → n < 10 ^ 64 → number_in (decimal n) ≡ n

-- dates are read back
abbrev pub DatesAreRead : Type 0
DatesAreRead = (date : Date) → IsDate date → date_of_word (date_word date) ≡ date

-- ratios are read back, their time and their tokens
abbrev pub RatiosAreRead : Type 0
RatiosAreRead = (time tokens : ℕ) → time < 2 ^ 64 → tokens < 2 ^ 64 →
    (number_in (before_slash (ratio_word time tokens)) ≡ time) × (number_in (behind_slash (ratio_word time tokens)) ≡ tokens)

-- labels are read back
abbrev pub LabelsAreRead : Type 0
LabelsAreRead = (label : List ℕ) → AreBytes label → label_in (label_word label) ≡ label
