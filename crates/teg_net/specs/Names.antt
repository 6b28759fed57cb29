-- Which texts are names.
use Rattle.std.specs.Prelude.{ℕ, Bool, not, ◌&&◌, ◌==◌, nat_le, List, length}
use Rattle.std.specs.List.{list_all}

-- a byte that a name may have: no blank and no control byte, no double quote, no comma
abbrev pub is_name_byte : ℕ → Bool
is_name_byte b = ((nat_le 0x21 b && not (b == 0x22)) && not (b == 0x2C)) && not (b == 0x7F)

-- 1 to 64 bytes, each one that a name may have
abbrev pub is_name : List ℕ → Bool
is_name bytes = (nat_le 1 (length bytes) && nat_le (length bytes) 64) && list_all is_name_byte bytes
