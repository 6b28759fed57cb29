-- A table's keys beside those of its tree, and the least of them.
use Rattle.std.proofs.Common.{◌≡◌, ℕ, Bool, true, false, cond, List, [], ◌∷◌, String, Global, string_bytes, Option, Some, None, option_map, find, Less, refl, ◌∙◌, sym}
use Rattle.std.proofs.lemmas.Cmp.{nat_list_cmp_total}
use Rattle.std.specs.Cmp.{tied_itself}
use Rattle.std.specs.List.{list_all, filter, AllByRecursion}
use Rattle.std.specs.List.Sorted.{IsStrictlySortedBy}
use Rattle.std.specs.String.{string_cmp}
use Rattle.std.specs.Map as entries
use Rattle.toml.specs.declared.value.Value.{Value}
use Rattle.toml.specs.View.{members_view}
use Rattle.teg_reader.specs.DocumentTrees.{keys_of}
use Rattle.teg_reader.specs.UnknownKeys.{is_at_most, least_text}

-- a key with its value
abbrev pub Entry : Type 0
Entry = String Global × Value

found_or : {A B : Type 0} (f : A → B) (b : Bool) (x : A) (rest : Option A) (d : Option B) → option_map f rest ≡ d → option_map f (cond b (Some x) rest) ≡ cond b (Some (f x)) d
found_or f true x rest d e = refl
found_or f false x rest d e = e

find_key : (p : List ℕ → Bool) (es : List Entry) → option_map string_bytes (find (λ k. p (string_bytes k)) (entries.keys_of es)) ≡ find p (keys_of (members_view es))
find_key p [] = refl
find_key p (e ∷ es) = found_or string_bytes (p (string_bytes e.0)) e.0 _ _ (find_key p es)

at_most_itself : (k : List ℕ) → is_at_most k k ≡ true
at_most_itself k = rw (tied_itself nat_list_cmp_total k)

pub least_of_none : least_text [] ≡ None
unfolding least_text
least_of_none = refl

-- a key before the others is the least
least_first : (k : List ℕ) (ks : List (List ℕ)) → list_all (is_at_most k) ks ≡ true → least_text (k ∷ ks) ≡ Some k
unfolding least_text
least_first k ks h = rw (at_most_itself k, h)

kept : (f p : List ℕ → Bool) (k : List ℕ) (b : Bool) (ks : List (List ℕ)) → f k ≡ true → list_all f ks ≡ true → list_all f (cond b (k ∷ ks) ks) ≡ true
kept f p k true ks here rest = rw (here, rest)
kept f p k false ks here rest = rest

-- what comes before all keys comes before those that pass a test
before_kept : (p : List ℕ → Bool) (k : String Global) (es : List Entry) → AllByRecursion (λ y. string_cmp k y ≡ Less) (entries.keys_of es)
    → list_all (is_at_most (string_bytes k)) (filter p (keys_of (members_view es))) ≡ true
before_kept p k [] h = refl
before_kept p k (e ∷ es) h =
    let here : is_at_most (string_bytes k) (string_bytes e.0) ≡ true = rw h.0 in
    kept (is_at_most (string_bytes k)) p (string_bytes e.0) (p (string_bytes e.0)) _ here (before_kept p k es h.1)

first_is_least : (p : List ℕ → Bool) (es : List Entry) → IsStrictlySortedBy string_cmp (entries.keys_of es) → find p (keys_of (members_view es)) ≡ least_text (filter p (keys_of (members_view es)))
unfolding IsStrictlySortedBy
first_is_least p [] h = sym least_of_none
first_is_least p (e ∷ es) h = step (p (string_bytes e.0)) (before_kept p e.0 es h.0) (first_is_least p es h.1) where
  step : (b : Bool) → list_all (is_at_most (string_bytes e.0)) (filter p (keys_of (members_view es))) ≡ true
      → find p (keys_of (members_view es)) ≡ least_text (filter p (keys_of (members_view es)))
      → cond b (Some (string_bytes e.0)) (find p (keys_of (members_view es)))
      ≡ least_text (cond b (string_bytes e.0 ∷ filter p (keys_of (members_view es))) (filter p (keys_of (members_view es))))
  step true below rest = sym (least_first (string_bytes e.0) _ below)
  step false below rest = rest

-- the first key in the order of the table that passes the test is the least that does
pub least_key : (p : List ℕ → Bool) (es : List Entry) → IsStrictlySortedBy string_cmp (entries.keys_of es)
    → option_map string_bytes (find (λ k. p (string_bytes k)) (entries.keys_of es)) ≡ least_text (filter p (keys_of (members_view es)))
least_key p es h = find_key p es ∙ first_is_least p es h
