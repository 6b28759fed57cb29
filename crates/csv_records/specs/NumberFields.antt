-- Fields that write a number in decimal digits.
use Rattle.std.specs.Prelude.{ℕ, Bool, not, ◌==◌, ◌&&◌, List, Option, Some, None, length, nat_le, if◌then◌else◌}
use Rattle.std.specs.Char.{is_ascii_digit}
use Rattle.std.specs.List.{list_all}
use Rattle.std.specs.Str.Parse.{digits_value}

-- the text is one digit or more, and nothing else; leading zeros are allowed
abbrev pub is_number : List ℕ → Bool
is_number field = not (length field == 0) && list_all is_ascii_digit field

-- what a field's number is compared with is at most this
abbrev pub greatest_field_number : ℕ
greatest_field_number = 1000000000000000000

-- the number of the digits, where it is not above `most`
abbrev pub number_up_to : ℕ → List ℕ → Option ℕ
number_up_to most field = if nat_le (digits_value 10 field) most then Some (digits_value 10 field) else None
