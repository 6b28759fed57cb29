-- The parts of sound entries.
use Rattle.std.proofs.Common.{◌≡◌, ℕ, ◌≤◌, true, nat_le, List, Option, Some, None, subst}
use Rattle.std.proofs.lemmas.Bool.{and_parts}
use Rattle.std.specs.Option.{option_map_or}
use Rattle.toml.specs.Data.{Data}
use Rattle.teg_net.specs.Limits.{most_place_tokens, greatest_every}
use Rattle.teg_reader.specs.declared.keys.Key.TheVariants as key
use Rattle.teg_reader.specs.TextLists.{is_among}
use Rattle.teg_reader.specs.DocumentTrees.{data_at, text_at, number_at, as_number}
use Rattle.teg_reader.specs.BadNames.{has_good_name}
use Rattle.teg_reader.specs.EventGraphs.{end_at}
use Rattle.teg_reader.specs.Sound.{is_sound_place, has_small_every, is_sound_input}
use Rattle.teg_reader.proofs.Facts.{le_of}

pub record SoundPlace (names : List (List ℕ)) (d : Data) : Type 0 where
  pub name : has_good_name d ≡ true
  pub tokens : number_at key.Tokens d ≤ most_place_tokens
  pub from : is_among names (end_at key.From d) ≡ true
  pub to : is_among names (end_at key.To d) ≡ true

pub sound_place : (names : List (List ℕ)) (d : Data) → is_sound_place names d ≡ true → SoundPlace names d
unfolding is_sound_place
sound_place names d h =
    let a = and_parts _ _ h in
    let b = and_parts (has_good_name d) _ a.0 in
    let c = and_parts (is_among names (end_at key.From d)) _ a.1 in
    record { name = b.0; tokens = le_of _ _ b.1; from = c.0; to = c.1 }

pub sound_input : (names : List (List ℕ)) (d : Data) → is_sound_input names d ≡ true → (is_among names (text_at key.Transition d) ≡ true) × (has_small_every d ≡ true)
unfolding is_sound_input
sound_input names d h = and_parts (is_among names (text_at key.Transition d)) _ h

unwrapped : (a b : Data) → Some a ≡ Some b → a ≡ b
unwrapped a b h = cc

small_found : (found : Option Data) (every : Data) → option_map_or (λ d. nat_le (as_number d) greatest_every) found true ≡ true → found ≡ Some every → as_number every ≤ greatest_every
small_found None every h is = cc
small_found (Some d) every h is = le_of _ _ (subst (λ x. nat_le (as_number x) greatest_every ≡ true) (unwrapped d every is) h)

pub every_within : (d every : Data) → has_small_every d ≡ true → data_at key.Every d ≡ Some every → as_number every ≤ greatest_every
unfolding has_small_every
every_within d every h is = small_found (data_at key.Every d) every h is
