-- The names of a written net, and their numbers.
use Rattle.std.proofs.Common.{◌≡◌, ◌≢◌, ℕ, zero, suc, ◌<◌, Bool, true, false, List, [], ◌∷◌, map, length, get_or, bytes_eq, All, AllPairs, IsSomeAnd, slice_get, refl, ap, sym, ◌∙◌, arith}
use Rattle.std.proofs.lemmas.Slice.Eq.{bytes_eq-Decides}
use Rattle.std.proofs.lemmas.List.Elements.{All-head, All-tail}
use Rattle.std.proofs.lemmas.Option.{slice_get-get_or}
use Rattle.std.specs.List.{position_or_len}
use Rattle.toml.specs.Data.{Data}
use Rattle.teg_net.specs.declared.entries.Transition.{Transition}
use Rattle.teg_net.specs.declared.entries.TransitionId.{TransitionId}
use Rattle.teg_net.specs.declared.entries.Role.{Role}
use Rattle.teg_net.specs.declared.entries.Role.TheVariants.{Internal, Input, Output}
use Rattle.teg_reader.specs.declared.keys.Key.{Key}
use Rattle.teg_reader.specs.declared.keys.Key.TheVariants as key
use Rattle.teg_reader.specs.TextLists.{is_among, is_distinct}
use Rattle.teg_reader.specs.DocumentTrees.{text_at, entry_names}
use Rattle.teg_reader.specs.NetOf.{role_of, entry_transition}
use Rattle.teg_reader.specs.Migrated.{role_text, name_of, transition_entry}
use Rattle.teg_reader.proofs.Facts.{same_text, right_true}
use Rattle.teg_reader.proofs.MigratedTrees.{transition_text, transition_role}

unequal : (a b : List ℕ) → (a ≡ b → ⊥) → bytes_eq a b ≡ false
unequal a b h = step (bytes_eq a b) (λ e. h (same_text a b e)) where
  step : (c : Bool) → (c ≡ true → ⊥) → c ≡ false
  step true f = absurd (f (λ _. true))
  step false f = λ _. false

equal : (a : List ℕ) → bytes_eq a a ≡ true
equal a = (bytes_eq-Decides a a).1 (λ _. a)

pairs_tail : {X : Type 0} (R : X → X → Type 0) (x : X) (xs : List X) → AllPairs R (x ∷ xs) → AllPairs R xs
pairs_tail R x xs pairs i j d before within = pairs (suc i) (suc j) d (omega arith) (omega arith)

pairs_head : {X : Type 0} (R : X → X → Type 0) (x : X) (xs : List X) → AllPairs R (x ∷ xs) → All (R x) xs
pairs_head R x xs pairs j d within = pairs 0 (suc j) d (omega arith) (omega arith)

none_after : {X : Type 0} (f : X → List ℕ) (text : List ℕ) (xs : List X) → All (λ x. text ≢ f x) xs → is_among (map f xs) text ≡ false
none_after f text [] h = refl
none_after f text (x ∷ xs) h =
    rw (unequal text (f x) (All-head (λ x. text ≢ f x) x xs h), none_after f text xs (All-tail (λ x. text ≢ f x) x xs h))

-- texts that differ by pairs are distinct
pub distinct_texts : {X : Type 0} (f : X → List ℕ) (xs : List X) → AllPairs (λ x y. f x ≢ f y) xs → is_distinct (map f xs) ≡ true
distinct_texts f [] pairs = refl
distinct_texts f (x ∷ xs) pairs =
    rw (none_after f (f x) xs (pairs_head (λ x y. f x ≢ f y) x xs pairs), distinct_texts f xs (pairs_tail (λ x y. f x ≢ f y) x xs pairs))

-- the texts of entries
pub texts_through : {X : Type 0} (k : Key) (f : X → Data) (g : X → List ℕ) → ((x : X) → text_at k (f x) ≡ g x) → (xs : List X) → map (text_at k) (map f xs) ≡ map g xs
texts_through k f g says [] = refl
texts_through k f g says (x ∷ xs) = rw (says x, texts_through k f g says xs)

-- the names of transitions
abbrev pub names_in : List Transition → List (List ℕ)
names_in ts = map (λ (t : Transition). t.name) ts

pub names_back : (ts : List Transition) → entry_names (map transition_entry ts) ≡ names_in ts
names_back ts = texts_through key.Name transition_entry (λ (t : Transition). t.name) transition_text ts

any_transition : Transition
any_transition = record { name = []; role = Internal }

name_there : (ts : List Transition) (id : TransitionId) → id.index < length ts → name_of ts id ≡ (get_or ts id.index any_transition).name
name_there ts id lt = rw (slice_get-get_or ts id.index any_transition lt)

in_names : (ts : List Transition) (i : ℕ) (d : Transition) → i < length ts → is_among (names_in ts) (get_or ts i d).name ≡ true
in_names [] i d lt = absurd (omega arith)
in_names (t ∷ ts) zero d lt = rw (equal t.name)
in_names (t ∷ ts) (suc i) d lt = right_true (bytes_eq (get_or ts i d).name t.name) _ (in_names ts i d (omega arith))

-- the name of a number is a name of the net
pub name_known : (ts : List Transition) (id : TransitionId) → id.index < length ts → is_among (names_in ts) (name_of ts id) ≡ true
name_known ts id lt = rw (name_there ts id lt) (in_names ts id.index any_transition lt)

-- transitions have distinct names
abbrev pub HaveDistinctNames : List Transition → Type 0
HaveDistinctNames ts = AllPairs (λ s t. s.name ≢ t.name) ts

number_at : (ts : List Transition) (i : ℕ) (d : Transition) → HaveDistinctNames ts → i < length ts → position_or_len (bytes_eq (get_or ts i d).name) (names_in ts) ≡ i
number_at [] i d distinct lt = absurd (omega arith)
number_at (t ∷ ts) zero d distinct lt = rw (equal t.name)
number_at (t ∷ ts) (suc i) d distinct lt =
    let other : bytes_eq (get_or ts i d).name t.name ≡ false = unequal (get_or ts i d).name t.name (λ e. distinct 0 (suc i) d (omega arith) lt (sym e)) in
    let rest : position_or_len (bytes_eq (get_or ts i d).name) (names_in ts) ≡ i = number_at ts i d (pairs_tail (λ s t. s.name ≢ t.name) t ts distinct) (omega arith) in
    rw (other, rest) (omega arith)

-- the number of the name of a number is that number
pub number_back : (ts : List Transition) (id : TransitionId) → HaveDistinctNames ts → id.index < length ts → position_or_len (bytes_eq (name_of ts id)) (names_in ts) ≡ id.index
number_back ts id distinct lt = rw (name_there ts id lt) (number_at ts id.index any_transition distinct lt)

pub same_number : (ts : List Transition) (a b : TransitionId) → HaveDistinctNames ts → a.index < length ts → b.index < length ts → name_of ts a ≡ name_of ts b → a.index ≡ b.index
same_number ts a b distinct la lb same =
    sym (number_back ts a distinct la) ∙ (ap (λ text. position_or_len (bytes_eq text) (names_in ts)) same ∙ number_back ts b distinct lb)

-- the number of an input is one of a transition
pub found_within : (ts : List Transition) (i : ℕ) → IsSomeAnd (slice_get ts i) (λ t. t.role ≡ Input) → i < length ts
found_within [] i h = absurd h
found_within (t ∷ ts) zero h = omega arith
found_within (t ∷ ts) (suc i) h = let lt = found_within ts i h in omega arith

-- a transition is that of its table
role_back : (r : Role) → role_of (role_text r) ≡ r
unfolding role_of
role_back Internal = refl
role_back Input = refl
role_back Output = refl

role_there : (t : Transition) → text_at key.Role (transition_entry t) ≡ role_text t.role
unfolding text_at
role_there t = rw (transition_role t)

pub transition_back : (t : Transition) → entry_transition (transition_entry t) ≡ t
unfolding entry_transition
transition_back t = rw (transition_text t, role_there t, role_back t.role)

pub transitions_back : (ts : List Transition) → map entry_transition (map transition_entry ts) ≡ ts
transitions_back [] = refl
transitions_back (t ∷ ts) = rw (transition_back t, transitions_back ts)
