-- Input lists in which the last pass finds no fault keep the rules of a net.
use Rattle.std.proofs.Common.{◌≡◌, ℕ, zero, suc, ◌+◌, ◌≤◌, Bool, true, false, nat_le, nat_lt, if◌then◌else◌, List, [], ◌∷◌, map, length, get_or}
use Rattle.std.proofs.Common.{Option, Some, None, option_map, refl, sym, arith, subst}
use Rattle.std.proofs.lemmas.Bool.{and_parts}
use Rattle.std.proofs.lemmas.Bool.Decides.{nat_tests}
use Rattle.std.proofs.lemmas.List.{length-map}
use Rattle.std.proofs.lemmas.List.Elements.{All-nil, All-cons}
use Rattle.std.specs.List.{list_all, All}
use Rattle.std.specs.List.Sorted.{IsNonDecreasing}
use Rattle.std.specs.Option.{option_map_or}
use Rattle.toml.specs.Data.{Data}
use Rattle.teg_net.specs.Limits.{most_input_dates, greatest_input_date, greatest_every}
use Rattle.teg_net.specs.Nets.{EndsOrGoesOn}
use Rattle.teg_reader.specs.declared.keys.Key.TheVariants as key
use Rattle.teg_reader.specs.DocumentTrees.{data_at, text_at, array_at, number_at, as_number, is_between}
use Rattle.teg_reader.specs.Ranges.{has_dates_in_range, is_between_at}
use Rattle.teg_reader.specs.EventGraphs.{is_input_named}
use Rattle.teg_reader.specs.InputLists.{entry_dates, entry_again, first_fall, is_bad_end, bad_date, fault_of, bad_input}
use Rattle.teg_reader.specs.Sound.{has_small_every}
use Rattle.teg_reader.proofs.Facts.{le_of, or_false, le_test}
use Rattle.teg_reader.proofs.ClearLemmas.{neither, unmapped, none_where, between, number_up_to, has_numbers_in_range}

not_less : (a b : ℕ) → nat_lt a b ≡ false → b ≤ a
not_less a b h = grind (arith, nat_tests)

no_fall : (b : Bool) (position : ℕ) (rest : Option ℕ) → (if b then Some position else rest) ≡ None → (b ≡ false) × (rest ≡ None)
no_fall true position rest h = cc
no_fall false position rest h = (λ _. false, h)

none_falls : IsNonDecreasing []
none_falls i j d le within = absurd (omega arith)

one_never_falls : (a : ℕ) → IsNonDecreasing (a ∷ [])
one_never_falls a zero zero d le within = omega arith
one_never_falls a (suc i) zero d le within = absurd (omega arith)
one_never_falls a i (suc j) d le within = absurd (omega arith)

more_never_falls : (a b : ℕ) (dates : List ℕ) → a ≤ b → IsNonDecreasing (b ∷ dates) → IsNonDecreasing (a ∷ b ∷ dates)
more_never_falls a b dates up later zero zero d le within = omega arith
more_never_falls a b dates up later zero (suc j) d le within =
    let rest : b ≤ get_or (b ∷ dates) j d = later 0 j d (omega arith) (omega arith) in
    omega arith
more_never_falls a b dates up later (suc i) zero d le within = absurd (omega arith)
more_never_falls a b dates up later (suc i) (suc j) d le within = later i j d (omega arith) (omega arith)

-- dates without a fall never fall
pub never_falls : (position : ℕ) (dates : List ℕ) → first_fall position dates ≡ None → IsNonDecreasing dates
never_falls position [] h = none_falls
never_falls position (a ∷ []) h = one_never_falls a
never_falls position (a ∷ b ∷ dates) h =
    let parts = no_fall (nat_lt b a) position _ h in
    more_never_falls a b dates (not_less b a parts.0) (never_falls (position + 1) (b ∷ dates) parts.1)

-- each date keeps its limit
pub dates_in : (ds : List Data) → list_all (is_between 0 greatest_input_date) ds ≡ true → All (λ d. d ≤ greatest_input_date) (map as_number ds)
dates_in [] h = All-nil (λ d. d ≤ greatest_input_date)
dates_in (d ∷ ds) h =
    let parts = and_parts (is_between 0 greatest_input_date d) _ h in
    All-cons (λ n. n ≤ greatest_input_date) (as_number d) (map as_number ds) (between 0 greatest_input_date d parts.0).1 (dates_in ds parts.1)

-- a list that can go on does so as a net asks
goes_on : (dates : List ℕ) (found : Option Data) (gap : ℕ) → option_map_or (is_between 1 greatest_every) found true ≡ true → gap ≤ greatest_input_date
    → is_bad_end dates (option_map (λ every. record { every = as_number every; gap = gap }) found) ≡ false
    → EndsOrGoesOn dates (option_map (λ every. record { every = as_number every; gap = gap }) found)
goes_on dates None gap range small good = tt
goes_on dates (Some every) gap range small good =
    let in_range = between 1 greatest_every every range in
    let parts = or_false (nat_lt (length dates) (as_number every)) _ good in
    record {
      some = in_range.0;
      every_in = in_range.1;
      gap_in = small;
      enough = not_less _ _ parts.0;
      joins = not_less _ _ parts.1;
    }

-- the parts of an input list without a fault
pub record IsGoodInput (ts : List Data) (d : Data) : Type 0 where
  pub is_input : is_input_named ts (text_at key.Transition d) ≡ true
  pub few : length (entry_dates d) ≤ most_input_dates
  pub dates_in : All (λ n. n ≤ greatest_input_date) (entry_dates d)
  pub never_falls : IsNonDecreasing (entry_dates d)
  pub again : EndsOrGoesOn (entry_dates d) (entry_again d)

no_fault : (b : Bool) (o : Option ℕ) → (if b then o else Some 0) ≡ None → (b ≡ true) × (o ≡ None)
no_fault true o h = (λ _. true, h)
no_fault false o h = cc

pub good_input : (ts : List Data) (d : Data) → bad_input ts d ≡ None → has_numbers_in_range d ≡ true → IsGoodInput ts d
unfolding bad_input fault_of bad_date entry_dates entry_again
good_input ts d none range =
    let found = no_fault (is_input_named ts (text_at key.Transition d)) _ (unmapped _ _ none) in
    let faults = neither _ _ found.1 in
    let a = and_parts (has_dates_in_range d) _ range in
    let b = and_parts (is_between_at key.Every 1 greatest_every d) _ a.1 in
    let c = and_parts (nat_le (length (array_at key.Dates d)) most_input_dates) _ a.0 in
    let count : length (map as_number (array_at key.Dates d)) ≡ length (array_at key.Dates d) = length-map (array_at key.Dates d) as_number in
    record {
      is_input = found.0;
      few = subst (λ n. n ≤ most_input_dates) (sym count) (le_of _ _ c.0);
      dates_in = dates_in (array_at key.Dates d) c.1;
      never_falls = never_falls 2 (map as_number (array_at key.Dates d)) faults.0;
      again = goes_on (map as_number (array_at key.Dates d)) (data_at key.Every d) (number_at key.Gap d) b.0 (number_up_to key.Gap greatest_input_date d b.1) (none_where _ _ faults.1);
    }

small_every : (found : Option Data) → option_map_or (is_between 1 greatest_every) found true ≡ true → option_map_or (λ every. nat_le (as_number every) greatest_every) found true ≡ true
small_every None h = refl
small_every (Some d) h = le_test _ _ (between 1 greatest_every d h).1

pub every_small : (d : Data) → has_numbers_in_range d ≡ true → has_small_every d ≡ true
unfolding has_small_every
every_small d range =
    let a = and_parts (has_dates_in_range d) _ range in
    let b = and_parts (is_between_at key.Every 1 greatest_every d) _ a.1 in
    small_every (data_at key.Every d) b.0
