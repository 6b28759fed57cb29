-- The words of dates, ratios and labels.
use Rattle.std.specs.Prelude.{ℕ, ◌/◌, ◌%◌, ◌+◌, ◌&&◌, ◌==◌, nat_le, ◌<◌, ◌^◌, ⊤, List, [], ◌∷◌, ◌++◌, flat_map, codes, All, if◌then◌else◌}
use Rattle.std.specs.Int.RustNames.{unsigned_abs}
use Rattle.std.specs.Fmt.{decimal, signed_decimal}
use Rattle.dioid.specs.declared.dates.Date.{Date}
use Rattle.dioid.specs.declared.dates.Date.TheVariants.{Early, At, Never}

-- a date: its number, or a word before or after all numbers
abbrev pub date_word : Date → List ℕ
date_word Early = codes "epsilon"
date_word (At date) = signed_decimal date
date_word Never = codes "never"

-- a hexadecimal digit in lower case: its byte
abbrev pub hex_digit : ℕ → ℕ
hex_digit n = if nat_le 10 n then 87 + n else 48 + n

-- a byte of a label: a visible one as itself, a backslash twice, any other by its two hexadecimal digits
abbrev pub label_byte : ℕ → List ℕ
label_byte byte =
    if byte == 0x5C then codes "\\\\"
    else if nat_le 0x21 byte && nat_le byte 0x7E then byte ∷ []
    else codes "\\x" ++ hex_digit (byte / 16) ∷ hex_digit (byte % 16) ∷ []

-- a label, byte by byte
abbrev pub label_word : List ℕ → List ℕ
label_word label = flat_map label_byte label

-- a ratio: its time and its tokens
abbrev pub ratio_word : ℕ → ℕ → List ℕ
ratio_word time tokens = decimal time ++ 47 ∷ decimal tokens

-- a text as a list of bytes
abbrev pub AreBytes : List ℕ → Type 0
AreBytes bytes = All (λ byte. byte < 256) bytes

-- a date whose number has 128 bits
abbrev pub IsDate : Date → Type 0
IsDate Early = ⊤
IsDate (At date) = unsigned_abs date < 2 ^ 128
IsDate Never = ⊤
