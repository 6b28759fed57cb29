-- The transition of a name, by its number and by its entry.
use Rattle.std.proofs.Common.{◌≡◌, ℕ, zero, suc, ◌+◌, ◌<◌, Bool, true, false, not, cond, ◌||◌, nat_lt, if◌then◌else◌, List, [], ◌∷◌, map, length}
use Rattle.std.proofs.Common.{get_or, bytes_eq, Option, Some, None, IsSomeAnd, slice_get, refl, ap, sym, subst, arith, codes}
use Rattle.std.proofs.lemmas.Bool.Decides.{nat_tests}
use Rattle.std.specs.List.{position_or_len, position}
use Rattle.std.proofs.lemmas.List.{length-map}
use Rattle.std.specs.Map.Iter.{deref}
use Rattle.std.specs.Option.{option_map_or}
use Rattle.toml.specs.Data.{Data}
use Rattle.toml.specs.declared.value.Value.{Value}
use Rattle.toml.specs.View.{view}
use Rattle.teg_net.specs.declared.entries.Transition.{Transition}
use Rattle.teg_net.specs.declared.entries.Role.TheVariants.{Internal, Input, Output}
use Rattle.teg_reader.specs.declared.keys.Key.TheVariants as key
use Rattle.teg_reader.specs.TextLists.{is_among}
use Rattle.teg_reader.specs.DocumentTrees.{text_at, entry_names, entry_named}
use Rattle.teg_reader.specs.EventGraphs.{is_input_entry, is_input_named}
use Rattle.teg_reader.specs.NetOf.{role_of, entry_transition}
use Rattle.teg_reader.proofs.NumberLemmas.{TextKey}

position_small : (b : Bool) (n i m : ℕ) → b ≡ nat_lt n m → cond b (Some n) None ≡ Some i → i < m
position_small true n i m e h = let lt : n < m = below n m (sym e) in rw (same n i h) at lt where
  below : (n m : ℕ) → nat_lt n m ≡ true → n < m
  below n m t = grind (arith, nat_tests)

  same : (n i : ℕ) → Some n ≡ Some i → n ≡ i
  same n i t = cc
position_small false n i m e h = cc

-- a position that is found is that of an element
pub position_in : {A : Type 0} (p : A → Bool) (xs : List A) (i : ℕ) → position p xs ≡ Some i → i < length xs
position_in p xs i h = position_small (nat_lt (position_or_len p xs) (length xs)) (position_or_len p xs) i (length xs) refl h

pub find_at : (text : List ℕ) (es : List Value) (i : ℕ) (d : Value) → position_or_len (bytes_eq text) (entry_names (map view es)) ≡ i
    → i < length es → entry_named text (map view es) ≡ Some (view (get_or es i d))
find_at text [] i d h lt = absurd (omega arith)
find_at text (e ∷ es) i d h lt = step (bytes_eq text (text_at key.Name (view e))) i h lt (find_at text es) where
  step : (b : Bool) (i : ℕ) → cond (not b) (1 + position_or_len (bytes_eq text) (entry_names (map view es))) 0 ≡ i → i < suc (length es)
      → ((i : ℕ) (d : Value) → position_or_len (bytes_eq text) (entry_names (map view es)) ≡ i → i < length es → entry_named text (map view es) ≡ Some (view (get_or es i d)))
      → cond b (Some (view e)) (entry_named text (map view es)) ≡ Some (view (get_or (e ∷ es) i d))
  step true zero h lt later = refl
  step true (suc i) h lt later = absurd (omega (arith, h))
  step false zero h lt later = absurd (omega (arith, h))
  step false (suc i) h lt later = later i d (omega (arith, h)) (omega arith)

pub find_none : (text : List ℕ) (ts : List Data) → is_among (entry_names ts) text ≡ false → entry_named text ts ≡ None
find_none text [] h = refl
find_none text (t ∷ ts) h = step (bytes_eq text (text_at key.Name t)) (is_among (entry_names ts) text) h (find_none text ts) where
  step : (b c : Bool) → (b || c) ≡ false → (c ≡ false → entry_named text ts ≡ None) → cond b (Some t) (entry_named text ts) ≡ None
  step true c h later = cc
  step false c h later = later h

role_input : (b c : Bool) → (if b then Input else if c then Output else Internal) ≡ Input → b ≡ true
role_input true c h = λ _. true
role_input false true h = cc
role_input false false h = cc

input_role : (b c : Bool) → b ≡ true → (if b then Input else if c then Output else Internal) ≡ Input
input_role true c h = λ _. Input
input_role false c h = cc

entry_role : (d : Data) → is_input_entry d ≡ true → (entry_transition d).role ≡ Input
unfolding is_input_entry entry_transition role_of
entry_role d h = input_role (bytes_eq (text_at key.Role d) (codes "input")) (bytes_eq (text_at key.Role d) (codes "output")) h

role_entry : (d : Data) → (entry_transition d).role ≡ Input → is_input_entry d ≡ true
unfolding is_input_entry entry_transition role_of
role_entry d h = role_input (bytes_eq (text_at key.Role d) (codes "input")) (bytes_eq (text_at key.Role d) (codes "output")) h

-- the number that a name has
abbrev pub number_in : List Data → List ℕ → ℕ
number_in ts text = position_or_len (bytes_eq text) (entry_names ts)

after_first : {X : Type 0} (x : X) (xs : List X) (n : ℕ) → slice_get (x ∷ xs) (1 + n) ≡ slice_get xs n
after_first x xs n = let on : 1 + n ≡ suc n = omega arith in ap (slice_get (x ∷ xs)) on

-- the transition that was found is an input
abbrev pub IsFoundInput : Option Transition → Type 0
IsFoundInput found = IsSomeAnd found (λ t. t.role ≡ Input)

-- the transition at the number of a name is an input exactly where the name is that of an input
pub is_input-from_named : (text : List ℕ) (ts : List Data) → is_input_named ts text ≡ true → IsFoundInput (slice_get (map entry_transition ts) (number_in ts text))
unfolding is_input_named
is_input-from_named text [] h = cc
is_input-from_named text (t ∷ ts) h = step (bytes_eq text (text_at key.Name t)) h (is_input-from_named text ts) where
  step : (b : Bool) → option_map_or is_input_entry (cond b (Some t) (entry_named text ts)) false ≡ true
      → (option_map_or is_input_entry (entry_named text ts) false ≡ true → IsFoundInput (slice_get (map entry_transition ts) (number_in ts text)))
      → IsFoundInput (slice_get (entry_transition t ∷ map entry_transition ts) (cond (not b) (1 + number_in ts text) 0))
  step true h later = entry_role t h
  step false h later = subst IsFoundInput (sym (after_first (entry_transition t) (map entry_transition ts) (number_in ts text))) (later h)

pub named-from_is_input : (text : List ℕ) (ts : List Data) → IsFoundInput (slice_get (map entry_transition ts) (number_in ts text)) → is_input_named ts text ≡ true
unfolding is_input_named
named-from_is_input text [] h = absurd h
named-from_is_input text (t ∷ ts) h = step (bytes_eq text (text_at key.Name t)) h (named-from_is_input text ts) where
  step : (b : Bool) → IsFoundInput (slice_get (entry_transition t ∷ map entry_transition ts) (cond (not b) (1 + number_in ts text) 0))
      → (IsFoundInput (slice_get (map entry_transition ts) (number_in ts text)) → option_map_or is_input_entry (entry_named text ts) false ≡ true)
      → option_map_or is_input_entry (cond b (Some t) (entry_named text ts)) false ≡ true
  step true h later = role_entry t h
  step false h later = later (subst IsFoundInput (after_first (entry_transition t) (map entry_transition ts) (number_in ts text)) h)

-- a number below that of the names is one of an entry
pub within_entries : (ks : List TextKey) (es : List Value) (i : ℕ) → i < length ks → map deref ks ≡ entry_names (map view es) → i < length es
within_entries ks es i lt same =
    let keys_len : length (map deref ks) ≡ length ks = length-map ks (deref {X = List ℕ}) in
    let names_len : length (entry_names (map view es)) ≡ length (map view es) = length-map (map view es) (text_at key.Name) in
    let es_len : length (map view es) ≡ length es = length-map es view in
    omega (arith, ap length same)
