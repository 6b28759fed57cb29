-- Texts as an index set keeps them, and the numbers of names.
use Rattle.std.proofs.Common.{◌≡◌, ℕ, ◌+◌, ◌<◌, Bool, true, false, not, cond, ◌||◌, nat_lt, if◌then◌else◌, List, [], ◌∷◌, ◌++◌, length, get_or, drop}
use Rattle.std.proofs.Common.{map, bytes_eq, Bor, Some, None, refl, ap, sym, ◌∙◌, append_assoc}
use Rattle.std.proofs.lemmas.Bool.{and_parts}
use Rattle.std.proofs.lemmas.List.{drop_more}
use Rattle.std.proofs.lemmas.Slice.Eq.{bytes_eq-Decides}
use Rattle.std.specs.List.{list_any, position_or_len, position}
use Rattle.std.specs.Map.Iter.{deref}
use Rattle.toml.specs.declared.value.Value.{Value}
use Rattle.toml.specs.View.{view}
use Rattle.teg_reader.specs.declared.keys.Key.TheVariants as key
use Rattle.teg_reader.specs.DocumentTrees.{text_at, entry_names}
use Rattle.teg_reader.specs.TextLists.{is_among, is_distinct}
use Rattle.teg_reader.proofs.Facts.{or_false, negated, same_text, or_true, right_true, right_false}

-- a text as an index set keeps it
abbrev pub TextKey : Type 0
TextKey = Bor (List ℕ)

pub any_deref : (t : List ℕ) (ks : List TextKey) → list_any (λ k. bytes_eq t k.now) ks ≡ is_among (map deref ks) t
any_deref t [] = refl
any_deref t (k ∷ ks) = ap (λ b. bytes_eq t k.now || b) (any_deref t ks)

pub position_deref : (t : List ℕ) (ks : List TextKey) → position_or_len (λ k. bytes_eq t k.now) ks ≡ position_or_len (bytes_eq t) (map deref ks)
position_deref t [] = refl
position_deref t (k ∷ ks) = ap (λ n. cond (not (bytes_eq t k.now)) (1 + n) 0) (position_deref t ks)

found_at : (b : Bool) (n i : ℕ) → cond b (Some n) None ≡ Some i → n ≡ i
found_at true n i h = cc
found_at false n i h = cc

pub position_found : {A : Type 0} (p : A → Bool) (xs : List A) (i : ℕ) → position p xs ≡ Some i → position_or_len p xs ≡ i
position_found p xs i h = found_at (nat_lt (position_or_len p xs) (length xs)) (position_or_len p xs) i h

pub map_deref-push : (ks : List TextKey) (k : TextKey) → map deref (ks ++ k ∷ []) ≡ map deref ks ++ k.now ∷ []
map_deref-push [] k = refl
map_deref-push (j ∷ ks) k = ap (λ t. j.now ∷ t) (map_deref-push ks k)

-- the names from an entry on
abbrev pub names_from : ℕ → List Value → List (List ℕ)
names_from i es = entry_names (map view (drop i es))

names_from-more : (es : List Value) (i : ℕ) (v : Value) → i < length es → v ≡ get_or es i v → names_from i es ≡ text_at key.Name (view v) ∷ names_from (i + 1) es
names_from-more es i v h is = rw (drop_more es i v h, ← is)

pub was_there : (a b : Bool) → a ≡ not b → a ≡ false → b ≡ true
was_there a true h k = λ _. true
was_there a false h k = cc

pub was_new : (a b : Bool) → a ≡ not b → a ≡ true → b ≡ false
was_new a true h k = cc
was_new a false h k = λ _. false

pub grown : (ks after : List TextKey) (n : TextKey) (b : Bool) → after ≡ (if b then ks else (ks ++ n ∷ [])) → b ≡ false → after ≡ ks ++ n ∷ []
grown ks after n true h e = cc
grown ks after n false h e = h

among_later : (t : List ℕ) (ks rest : List (List ℕ)) → is_among (ks ++ t ∷ rest) t ≡ true
among_later t [] rest = rw ((bytes_eq-Decides t t).1 (λ _. t))
among_later t (k ∷ ks) rest = right_true (bytes_eq t k) _ (among_later t ks rest)

first_repeats : (k : List ℕ) (xs : List (List ℕ)) → is_among xs k ≡ true → is_distinct (k ∷ xs) ≡ false
first_repeats k xs h = rw h

-- a text that stands among the names makes them repeat where it stands once more
pub repeats : (t : List ℕ) (ks rest : List (List ℕ)) → is_among ks t ≡ true → is_distinct (ks ++ t ∷ rest) ≡ false
repeats t [] rest h = cc
repeats t (k ∷ ks) rest h =
    or_true (bytes_eq t k) (is_among ks t) h
    (λ e. first_repeats k (ks ++ t ∷ rest) (rw (← same_text t k e) (among_later t ks rest)))
    (λ e. right_false (not (is_among (ks ++ t ∷ rest) k)) _ (repeats t ks rest e))

pub repeats_here : (es : List Value) (i : ℕ) (v : Value) (ks : List TextKey) (n : TextKey) (added : Bool) (names : List (List ℕ))
    → i < length es → v ≡ get_or es i v → n.now ≡ text_at key.Name (view v)
    → added ≡ not (list_any (λ k. bytes_eq n.now k.now) ks) → added ≡ false
    → map deref ks ++ names_from i es ≡ names → is_distinct names ≡ false
repeats_here es i v ks n added names h is name test old before =
    let opened = rw (names_from-more es i v h is, ← name) at before in
    let there : is_among (map deref ks) n.now ≡ true = sym (any_deref n.now ks) ∙ was_there _ _ test old in
    rw (← opened) (repeats n.now (map deref ks) (names_from (i + 1) es) there)

pub all_more : (es : List Value) (i : ℕ) (v : Value) (ks : List TextKey) (n : TextKey) (names : List (List ℕ)) → i < length es → v ≡ get_or es i v → n.now ≡ text_at key.Name (view v)
    → map deref ks ++ names_from i es ≡ names → map deref (ks ++ n ∷ []) ++ names_from (i + 1) es ≡ names
all_more es i v ks n names h is name before =
    let opened = rw (names_from-more es i v h is) at before in
    rw (map_deref-push ks n, name, append_assoc) opened

differ : (a b : List ℕ) → bytes_eq a b ≡ false → bytes_eq b a ≡ false
differ a b h = step (bytes_eq b a) (λ e. sym h ∙ (bytes_eq-Decides a b).1 (sym (same_text b a e))) where
  step : (c : Bool) → (c ≡ true → false ≡ true) → c ≡ false
  step true f = sym (f (λ _. true))
  step false f = λ _. false

-- whether two texts are the same does not depend on their order
pub same_either_way : (a b : List ℕ) → bytes_eq a b ≡ bytes_eq b a
same_either_way a b = step (bytes_eq a b) (λ e. sym ((bytes_eq-Decides b a).1 (sym (same_text a b e)))) (λ e. sym (differ a b e)) where
  step : (c : Bool) → (c ≡ true → true ≡ bytes_eq b a) → (c ≡ false → false ≡ bytes_eq b a) → c ≡ bytes_eq b a
  step true f g = f (λ _. true)
  step false f g = g (λ _. false)

among_push : (k t : List ℕ) (ks : List (List ℕ)) → is_among ks k ≡ false → bytes_eq k t ≡ false → is_among (ks ++ t ∷ []) k ≡ false
among_push k t [] h e = rw e
among_push k t (j ∷ ks) h e =
    let parts = or_false (bytes_eq k j) (is_among ks k) h in
    rw (parts.0, among_push k t ks parts.1 e)

-- a new text at the end leaves the names distinct
pub stays_distinct : (t : List ℕ) (ks : List (List ℕ)) → is_among ks t ≡ false → is_distinct ks ≡ true → is_distinct (ks ++ t ∷ []) ≡ true
stays_distinct t [] h d = refl
stays_distinct t (k ∷ ks) h d =
    let new = or_false (bytes_eq t k) (is_among ks t) h in
    let old = and_parts (not (is_among ks k)) (is_distinct ks) d in
    rw (among_push k t ks (negated _ old.0) (differ t k new.0), stays_distinct t ks new.1 old.1)
