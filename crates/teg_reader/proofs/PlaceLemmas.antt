-- Places in which the last passes find no fault keep the rules of a net.
use Rattle.std.proofs.Common.{◌≡◌, ◌⊎◌, inl, inr, Bool, true, false, not, ◌==◌, nat_le, List, [], map, length, Option, Some, None, is_some, option_and_then, refl, ap, ◌∙◌}
use Rattle.std.proofs.lemmas.List.{length-map}
use Rattle.std.specs.List.{list_all}
use Rattle.std.specs.Option.{option_map_or}
use Rattle.toml.specs.Data.{Data, as_array}
use Rattle.teg_net.specs.Limits.{greatest_hold}
use Rattle.teg_reader.specs.declared.keys.Key.TheVariants as key
use Rattle.teg_reader.specs.DocumentTrees.{listed_data, data_at, is_there, array_at, number_at, as_number}
use Rattle.teg_reader.specs.ReadyDatePass.{ready_of, has_ready_for_each, bad_ready}
use Rattle.teg_reader.specs.Holds.{hold_with_duration, too_slow}
use Rattle.teg_reader.specs.PassWalks.{first_of_entries}
use Rattle.teg_reader.specs.Documents.{bad_places}
use Rattle.teg_reader.proofs.Facts.{negated, or_true}
use Rattle.teg_net.proofs.number_laws_proofs.Numbers.{same_number}
use Rattle.teg_reader.proofs.ClearLemmas.{neither, all_passed}
use Rattle.teg_reader.proofs.GraphLemmas.{none_unless}

no_list : (found : Option Data) → is_some found ≡ false → option_map_or listed_data (option_and_then as_array found) [] ≡ []
no_list None h = refl
no_list (Some d) h = cc

absent : (d : Data) → is_there key.Ready d ≡ false → array_at key.Ready d ≡ []
unfolding is_there array_at
absent d h = no_list (data_at key.Ready d) h

-- no ready date, or one for each token
pub ready_for_each : (d : Data) → has_ready_for_each d ≡ true → (length (ready_of d) ≡ 0) ⊎ (length (ready_of d) ≡ number_at key.Tokens d)
unfolding ready_of
ready_for_each d h =
    let count : length (map as_number (array_at key.Ready d)) ≡ length (array_at key.Ready d) = length-map (array_at key.Ready d) as_number in
    or_true (not (is_there key.Ready d)) (length (array_at key.Ready d) == number_at key.Tokens d) h
    (λ e. inl (count ∙ ap length (absent d (negated _ e))))
    (λ e. inr (count ∙ same_number _ _ e))

ready_fits : (d : Data) → bad_ready d ≡ None → has_ready_for_each d ≡ true
unfolding bad_ready
ready_fits d h = none_unless (has_ready_for_each d) _ h

-- the hold of the place keeps its limit
abbrev pub has_small_hold : List Data → Data → Bool
has_small_hold ts d = nat_le (hold_with_duration ts d) greatest_hold

hold_fits : (ts : List Data) (d : Data) → too_slow ts d ≡ None → has_small_hold ts d ≡ true
unfolding too_slow
hold_fits ts d h = none_unless (has_small_hold ts d) _ h

-- the passes over the numbers of the places
pub record ArePlaces (top : Data) : Type 0 where
  pub ready : list_all has_ready_for_each (array_at key.Place top) ≡ true
  pub holds : list_all (has_small_hold (array_at key.Transition top)) (array_at key.Place top) ≡ true

pub good_places : (top : Data) → bad_places top ≡ None → ArePlaces top
unfolding bad_places
good_places top h =
    let both = neither (first_of_entries bad_ready (array_at key.Place top)) _ h in
    record {
      ready = all_passed bad_ready has_ready_for_each ready_fits (array_at key.Place top) both.0;
      holds = all_passed (too_slow (array_at key.Transition top)) (has_small_hold (array_at key.Transition top)) (hold_fits (array_at key.Transition top)) (array_at key.Place top) both.1;
    }
