-- A tree's lists beside the code's.
use Rattle.std.proofs.Common.{◌≡◌, ℕ, ◌+◌, ◌<◌, zero, suc, get_or, drop, true, arith, ◌∙◌, Bool, length, List, [], ◌∷◌, map, refl, ap, sym, take, ◌++◌}
use Rattle.std.proofs.lemmas.Bool.{and_parts}
use Rattle.std.proofs.lemmas.List.{length-map, drop_more, map-append, map_more, take_more}
use Rattle.std.specs.List.{list_all}
use Rattle.toml.specs.Data.{Data}
use Rattle.toml.specs.declared.value.Value.{Value}
use Rattle.toml.specs.View.{view, items_view}
use Rattle.teg_reader.specs.DocumentTrees.{listed_data}

pub list_of_view : (vs : List Value) → listed_data (items_view vs) ≡ map view vs
list_of_view [] = refl
list_of_view (v ∷ vs) = ap (λ t. view v ∷ t) (list_of_view vs)

pub ruleset lengths = length-map

-- the entries from an index on
abbrev pub entries_from : ℕ → List Value → List Data
entries_from i es = map view (drop i es)

pub entries_from-more : (es : List Value) (i : ℕ) (v : Value) → i < length es → v ≡ get_or es i v → entries_from i es ≡ view v ∷ entries_from (i + 1) es
entries_from-more es i v h is = rw (drop_more es i v h, ← is)

passes_at : (p : Data → Bool) (es : List Value) (i : ℕ) (d : Value) → i < length es → list_all p (map view es) ≡ true → p (view (get_or es i d)) ≡ true
passes_at p [] i d h all = absurd (omega arith)
passes_at p (e ∷ es) zero d h all = (and_parts _ _ all).0
passes_at p (e ∷ es) (suc i) d h all = passes_at p es i d (omega arith) (and_parts _ _ all).1

-- what passes at each entry passes at this one
pub entry_passes : (p : Data → Bool) (es : List Value) (i : ℕ) (v : Value) → i < length es → v ≡ get_or es i v → list_all p (map view es) ≡ true → p (view v) ≡ true
entry_passes p es i v h is all = ap (λ x. p (view x)) is ∙ passes_at p es i v h all

-- one element more of what is made of each element of a list
pub pushed_of : {Z : Type 0} (f : Data → Z) (vs : List Value) (i : ℕ) (v : Value) (old new : List Z) (z : Z) → i < length vs → v ≡ get_or vs i v
    → old ≡ map f (map view (take i vs)) → z ≡ f (view v) → new ≡ old ++ z ∷ [] → new ≡ map f (map view (take (i + 1) vs))
pushed_of f vs i v old new z h is e ez en =
    let more : map f (map view (take (i + 1) vs)) ≡ map f (map view (take i vs)) ++ f (view v) ∷ [] =
    ap (λ l. map f (map view l)) (take_more vs i v h)
    ∙ (ap (map f) (map-append view (take i vs) (get_or vs i v ∷ []))
    ∙ (map-append f (map view (take i vs)) (map view (get_or vs i v ∷ []))
    ∙ ap (λ x. map f (map view (take i vs)) ++ f (view x) ∷ []) (sym is))) in
    en ∙ (ap (λ l. l ++ z ∷ []) e ∙ (ap (λ x. map f (map view (take i vs)) ++ x ∷ []) ez ∙ sym more))

-- the same of values that show what is made of each element
pub pushed_value : {X : Type 0} (f : X → Data) (xs : List X) (i : ℕ) (x : X) (old new : List Value) (v : Value) → i < length xs → x ≡ get_or xs i x
    → map view old ≡ map f (take i xs) → view v ≡ f x → new ≡ old ++ v ∷ [] → map view new ≡ map f (take (i + 1) xs)
pushed_value f xs i x old new v h is e ev en =
    let more : map f (take (i + 1) xs) ≡ map f (take i xs) ++ f x ∷ [] = map_more f xs i x h ∙ ap (λ y. map f (take i xs) ++ f y ∷ []) (sym is) in
    ap (map view) en ∙ (map-append view old (v ∷ []) ∙ (ap (λ l. l ++ view v ∷ []) e ∙ (ap (λ d. map f (take i xs) ++ d ∷ []) ev ∙ sym more)))
