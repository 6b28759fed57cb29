-- Numbers among the words.
use Rattle.std.specs.Prelude.{ℕ, Bool, ◌&&◌, List, Option, Some, None, length, nat_le, if◌then◌else◌}
use Rattle.std.specs.Char.{is_ascii_digit}
use Rattle.std.specs.List.{list_all}
use Rattle.std.specs.Str.Parse.{digits_value}

-- the word is 1 to 19 decimal digits
abbrev pub is_number_word : List ℕ → Bool
is_number_word word = nat_le 1 (length word) && nat_le (length word) 19 && list_all is_ascii_digit word

-- the value, where it lies from low to high
abbrev pub within : ℕ → ℕ → ℕ → Option ℕ
within low high value = if nat_le low value && nat_le value high then Some value else None

-- the number from low to high that the word says in decimal digits, if it says one
abbrev pub number_of_word : ℕ → ℕ → List ℕ → Option ℕ
number_of_word low high word = if is_number_word word then within low high (digits_value 10 word) else None
