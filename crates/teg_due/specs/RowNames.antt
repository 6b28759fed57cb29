-- What a row says of the transitions of a net.
use Rattle.std.specs.Prelude.{ℕ, Bool, true, false, List, Option, position, slice_get}
use Rattle.std.specs.Option.{option_map_or}
use Rattle.std.specs.Str.{bytes_eq}
use Rattle.teg_net.specs.declared.entries.Role.{Role}
use Rattle.teg_net.specs.declared.entries.Role.TheVariants.{Internal, Input, Output}
use Rattle.teg_net.specs.Nets.{NetLists}

-- the number of the transition of this name
abbrev pub number_named : NetLists → List ℕ → Option ℕ
number_named net name = position (λ t. bytes_eq t.name name) net.transitions

-- the role of inputs
abbrev pub is_input_role : Role → Bool
is_input_role Internal = false
is_input_role Input = true
is_input_role Output = false

-- the transition of this number is an input
abbrev pub is_input : NetLists → ℕ → Bool
is_input net t = option_map_or (λ x. is_input_role x.role) (slice_get net.transitions t) false
