-- What passes over the entries say where they find nothing.
use Rattle.std.proofs.Common.{◌≡◌, ℕ, ◌+◌, ◌-◌, ◌≤◌, pos, negsuc, Bool, true, false, not, ◌&&◌, if◌then◌else◌, nat_le, List, [], ◌∷◌, ◌++◌, map, take}
use Rattle.std.proofs.Common.{length, Option, Some, None, option_map, refl, ap, arith, append_assoc, append-nil, subst}
use Rattle.std.proofs.lemmas.Bool.{and_parts}
use Rattle.std.proofs.lemmas.List.{map-append, length-append}
use Rattle.std.specs.List.{list_all}
use Rattle.std.specs.Option.{option_map_or}
use Rattle.toml.specs.Data.{Data, string, integer, float, boolean, datetime, array, table}
use Rattle.teg_net.specs.Limits.{most_transitions, most_places, greatest_hold, most_place_tokens, greatest_input_date, greatest_every}
use Rattle.teg_reader.specs.declared.keys.Key.{Key}
use Rattle.teg_reader.specs.declared.keys.Key.TheVariants as key
use Rattle.teg_reader.specs.declared.fields.Field.{Field}
use Rattle.teg_reader.specs.declared.refusals.Section.{Section}
use Rattle.teg_reader.specs.declared.refusals.Section.TheVariants as section
use Rattle.teg_reader.specs.declared.refusals.ReadRefusal.{ReadRefusal}
use Rattle.teg_reader.specs.Fields.{fields_of}
use Rattle.teg_reader.specs.TextLists.{is_among, is_distinct}
use Rattle.teg_reader.specs.DocumentTrees.{data_at, text_at, array_at, number_at, as_number, is_between, entry_names, or_else}
use Rattle.teg_reader.specs.PassWalks.{Look, spot_at, first_finding, first_of_entries, finding}
use Rattle.teg_reader.specs.WrongKinds.{first_failing}
use Rattle.teg_reader.specs.UnknownKeys.{is_second, unknown_key}
use Rattle.teg_reader.specs.WrongKinds.{wrong_kind}
use Rattle.teg_reader.specs.MissingKeys.{missing_key}
use Rattle.teg_reader.specs.BadNames.{bad_name, has_good_name}
use Rattle.teg_reader.specs.Repeats.{repeats_earlier, repeated_at, repeated}
use Rattle.teg_reader.specs.Ranges.{out_of_range, in_range, is_between_at, has_dates_in_range}
use Rattle.teg_reader.specs.Documents.{bad_entries}
use Rattle.teg_reader.proofs.Facts.{le_of, one_less}
use Rattle.teg_reader.proofs.NumberLemmas.{stays_distinct}

-- neither has a finding
pub neither : {A : Type 0} (a b : Option A) → or_else a b ≡ None → (a ≡ None) × (b ≡ None)
neither None b h = (λ _. None, h)
neither (Some x) b h = cc

pub unmapped : {A B : Type 0} (f : A → B) (o : Option A) → option_map f o ≡ None → o ≡ None
unmapped f None h = refl
unmapped f (Some x) h = cc

pub none_if : {A : Type 0} (b : Bool) (x : A) → (if not b then Some x else None) ≡ None → b ≡ true
none_if true x h = refl
none_if false x h = cc

pub none_where : {A : Type 0} (b : Bool) (x : A) → (if b then Some x else None) ≡ None → b ≡ false
none_where true x h = cc
none_where false x h = refl

-- where a look at each entry finds nothing, each passes the test that it stands for
pub all_clear : (look : Look) (section : Section) (p : Data → Bool)
    → ((n : ℕ) (d : Data) → look (spot_at section n) d ≡ None → p d ≡ true) → (n : ℕ) (es : List Data)
    → first_finding look section n es ≡ None → list_all p es ≡ true
all_clear look section p says n [] h = refl
all_clear look section p says n (e ∷ es) h =
    let both = neither _ _ h in
    rw (says n e both.0, all_clear look section p says (n + 1) es both.1)

pub all_passed : (look : Data → Option ReadRefusal) (p : Data → Bool) → ((d : Data) → look d ≡ None → p d ≡ true) → (es : List Data) → first_of_entries look es ≡ None → list_all p es ≡ true
all_passed look p says [] h = refl
all_passed look p says (e ∷ es) h =
    let both = neither _ _ h in
    rw (says e both.0, all_passed look p says es both.1)

-- what a pass without a finding says of each section
pub record IsClear (look : Look) (top : Data) : Type 0 where
  pub at_top : look (spot_at section.Top 0) top ≡ None
  pub transitions : first_finding look section.Transition 1 (array_at key.Transition top) ≡ None
  pub places : first_finding look section.Place 1 (array_at key.Place top) ≡ None
  pub inputs : first_finding look section.Input 1 (array_at key.Input top) ≡ None

pub clear : (look : Look) (top : Data) → finding look top ≡ None → IsClear look top
unfolding finding
clear look top h =
    let a = neither (look (spot_at section.Top 0) top) _ h in
    let b = neither (first_finding look section.Transition 1 (array_at key.Transition top)) _ a.1 in
    let c = neither (first_finding look section.Place 1 (array_at key.Place top)) _ b.1 in
    record { at_top = a.0; transitions = b.0; places = c.0; inputs = c.1 }

-- the passes over the entries that the net rests on
pub record AreGood (top : Data) : Type 0 where
  pub names : finding bad_name top ≡ None
  pub repeats : repeated top ≡ None
  pub ranges : finding out_of_range top ≡ None

pub good_entries : (top : Data) → bad_entries top ≡ None → AreGood top
unfolding bad_entries
good_entries top h =
    let a = neither (finding (unknown_key (is_second top)) top) _ h in
    let b = neither (finding wrong_kind top) _ a.1 in
    let c = neither (finding missing_key top) _ b.1 in
    let d = neither (finding bad_name top) _ c.1 in
    let e = neither (repeated top) _ d.1 in
    record { names = d.0; repeats = e.0; ranges = e.1 }

transition_named : (n : ℕ) (d : Data) → bad_name (spot_at section.Transition n) d ≡ None → has_good_name d ≡ true
unfolding bad_name
transition_named n d none = none_if (has_good_name d) _ none

place_named : (n : ℕ) (d : Data) → bad_name (spot_at section.Place n) d ≡ None → has_good_name d ≡ true
unfolding bad_name
place_named n d none = none_if (has_good_name d) _ none

pub transitions_named : (top : Data) → AreGood top → list_all has_good_name (array_at key.Transition top) ≡ true
transitions_named top good = all_clear bad_name section.Transition has_good_name transition_named 1 (array_at key.Transition top) (clear bad_name top good.names).transitions

pub places_named : (top : Data) → AreGood top → list_all has_good_name (array_at key.Place top) ≡ true
places_named top good = all_clear bad_name section.Place has_good_name place_named 1 (array_at key.Place top) (clear bad_name top good.names).places

-- entries of which none repeats an earlier one have distinct texts
pub front_of : (front rest : List Data) → take ((length front + 1) - 1) (front ++ rest) ≡ front
front_of front rest = rw (one_less (length front)) (taken front) where
  taken : (xs : List Data) → take (length xs) (xs ++ rest) ≡ xs
  taken [] = refl
  taken (x ∷ xs) = ap (λ ys. x ∷ ys) (taken xs)

not_earlier : (section : Section) (key : Key) (front rest : List Data) (d : Data)
    → repeats_earlier key (front ++ rest) (spot_at section (length front + 1)) d ≡ None → is_among (map (text_at key) front) (text_at key d) ≡ false
unfolding repeats_earlier
not_earlier section key front rest d h = rw (front_of front rest) at (none_where (is_among (map (text_at key) (take ((length front + 1) - 1) (front ++ rest))) (text_at key d)) _ h)

distinct_from : (section : Section) (key : Key) (front rest : List Data) → first_finding (repeats_earlier key (front ++ rest)) section (length front + 1) rest ≡ None
    → is_distinct (map (text_at key) front) ≡ true → is_distinct (map (text_at key) (front ++ rest)) ≡ true
distinct_from section key front [] h d = rw (append-nil front) d
distinct_from section key front (e ∷ rest) h d =
    let both = neither _ _ h in
    let new : is_among (map (text_at key) front) (text_at key e) ≡ false = not_earlier section key front (e ∷ rest) e both.0 in
    let longer : is_distinct (map (text_at key) (front ++ e ∷ [])) ≡ true = rw map-append (stays_distinct (text_at key e) (map (text_at key) front) new d) in
    let same : (front ++ e ∷ []) ++ rest ≡ front ++ e ∷ rest = append_assoc front (e ∷ []) rest in
    let count : length (front ++ e ∷ []) ≡ length front + 1 = length-append front (e ∷ []) in
    subst (λ es. is_distinct (map (text_at key) es) ≡ true) same
    (distinct_from section key (front ++ e ∷ []) rest (rw (same, count) both.1) longer)

distinct_at : (section : Section) (key : Key) (es : List Data) → repeated_at section key es ≡ None → is_distinct (map (text_at key) es) ≡ true
unfolding repeated_at
distinct_at section key es h = distinct_from section key [] es h refl

pub record AreDistinct (top : Data) : Type 0 where
  pub transitions : is_distinct (entry_names (array_at key.Transition top)) ≡ true
  pub places : is_distinct (entry_names (array_at key.Place top)) ≡ true
  pub inputs : is_distinct (map (text_at key.Transition) (array_at key.Input top)) ≡ true

pub distinct : (top : Data) → AreGood top → AreDistinct top
unfolding repeated
distinct top good =
    let a = neither (repeated_at section.Transition key.Name (array_at key.Transition top)) _ good.repeats in
    let b = neither (repeated_at section.Place key.Name (array_at key.Place top)) _ a.1 in
    record {
      transitions = distinct_at section.Transition key.Name (array_at key.Transition top) a.0;
      places = distinct_at section.Place key.Name (array_at key.Place top) b.0;
      inputs = distinct_at section.Input key.Transition (array_at key.Input top) b.1;
    }

-- fields of which none fails
none_failing : (p : Field → Bool) (fields : List Field) → first_failing p fields ≡ None → list_all p fields ≡ true
none_failing p [] h = refl
none_failing p (f ∷ fields) h = step (p f) (first_failing p fields) (list_all p fields) h (none_failing p fields) where
  step : (b : Bool) (rest : Option Key) (all : Bool) → (if b then rest else Some f.0) ≡ None → (rest ≡ None → all ≡ true) → (b && all) ≡ true
  step true rest all h more = more h
  step false rest all h more = cc

fields_in_range : (section : Section) (n : ℕ) (d : Data) → out_of_range (spot_at section n) d ≡ None → list_all (λ f. in_range section d f.0) (fields_of section) ≡ true
unfolding out_of_range
fields_in_range section n d h = none_failing (λ f. in_range section d f.0) (fields_of section) (unmapped _ _ h)

-- the numbers of entries are those of a net
pub record AreFew (top : Data) : Type 0 where
  pub transitions : length (array_at key.Transition top) ≤ most_transitions
  pub places : length (array_at key.Place top) ≤ most_places

pub few : (top : Data) → AreGood top → AreFew top
unfolding fields_of in_range
few top good =
    let all = fields_in_range section.Top 0 top (clear out_of_range top good.ranges).at_top in
    let a = and_parts (is_between_at key.Version 1 2 top) _ all in
    let b = and_parts (nat_le (length (array_at key.Transition top)) most_transitions) _ a.1 in
    let c = and_parts (nat_le (length (array_at key.Place top)) most_places) _ b.1 in
    record { transitions = le_of _ _ b.0; places = le_of _ _ c.0 }

-- the numbers of a place keep their ranges
abbrev pub has_small_numbers : Data → Bool
has_small_numbers d = is_between_at key.Hold 0 greatest_hold d && (is_between_at key.Tokens 0 most_place_tokens d && list_all (is_between 0 greatest_input_date) (array_at key.Ready d))

place_in_range : (n : ℕ) (d : Data) → out_of_range (spot_at section.Place n) d ≡ None → has_small_numbers d ≡ true
unfolding fields_of in_range
place_in_range n d h =
    let all = fields_in_range section.Place n d h in
    let a = and_parts (is_between_at key.Hold 0 greatest_hold d) _ all in
    let b = and_parts (is_between_at key.Tokens 0 most_place_tokens d) _ a.1 in
    let c = and_parts (list_all (is_between 0 greatest_input_date) (array_at key.Ready d)) _ b.1 in
    rw (a.0, b.0, c.0)

pub places_in_range : (top : Data) → AreGood top → list_all has_small_numbers (array_at key.Place top) ≡ true
places_in_range top good = all_clear out_of_range section.Place has_small_numbers place_in_range 1 (array_at key.Place top) (clear out_of_range top good.ranges).places

-- the numbers of an input list keep their ranges
abbrev pub has_numbers_in_range : Data → Bool
has_numbers_in_range d = has_dates_in_range d && (is_between_at key.Every 1 greatest_every d && is_between_at key.Gap 0 greatest_input_date d)

input_in_range : (n : ℕ) (d : Data) → out_of_range (spot_at section.Input n) d ≡ None → has_numbers_in_range d ≡ true
unfolding fields_of in_range
input_in_range n d h =
    let all = fields_in_range section.Input n d h in
    let a = and_parts (has_dates_in_range d) _ all in
    let b = and_parts (is_between_at key.Every 1 greatest_every d) _ a.1 in
    let c = and_parts (is_between_at key.Gap 0 greatest_input_date d) _ b.1 in
    rw (a.0, b.0, c.0)

pub inputs_in_range : (top : Data) → AreGood top → list_all has_numbers_in_range (array_at key.Input top) ≡ true
inputs_in_range top good = all_clear out_of_range section.Input has_numbers_in_range input_in_range 1 (array_at key.Input top) (clear out_of_range top good.ranges).inputs

-- an integer in its range has a number there
pub between : (low high : ℕ) (d : Data) → is_between low high d ≡ true → (low ≤ as_number d) × (as_number d ≤ high)
between low high (integer (pos n)) h = let parts = and_parts (nat_le low n) (nat_le n high) h in (le_of low n parts.0, le_of n high parts.1)
between low high (integer (negsuc n)) h = cc
between low high (string s) h = cc
between low high (float x) h = cc
between low high (boolean b) h = cc
between low high (datetime t) h = cc
between low high (array ds) h = cc
between low high (table ms) h = cc

found_up_to : (high : ℕ) (found : Option Data) → option_map_or (is_between 0 high) found true ≡ true → option_map_or as_number found 0 ≤ high
found_up_to high None h = omega arith
found_up_to high (Some d) h = (between 0 high d h).1

pub number_up_to : (key : Key) (high : ℕ) (d : Data) → is_between_at key 0 high d ≡ true → number_at key d ≤ high
unfolding number_at
number_up_to key high d h = found_up_to high (data_at key d) h
