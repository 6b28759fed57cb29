-- How a table of names grows, and what it answers.
use Rattle.std.proofs.Common.{rules, ℕ, ◌<◌, ◌+◌, ◌≡◌, ◌≢◌, ◌∙◌, List, Bool, true, false, cond, length, take, get_or, Option, Some, None, All, inl, inr, refl, sym, subst, ap, arith}
use Rattle.std.specs.Prelude.{IfSome, IsSomeAnd, slice_get, ◌↔◌, option_map}
use Rattle.std.specs.Option.{IsSome}
use Rattle.std.specs.Str.{bytes_eq}
use Rattle.std.proofs.lemmas.List.Elements.{All-more}
use Rattle.std.proofs.lemmas.Option.{slice_get-get_or, slice_get_cases}
use Rattle.std.proofs.lemmas.Slice.Eq.{bytes_eq-Decides}
use Rattle.teg_net.specs.NameTables.{LooksUp}

equal : (xs ys : List ℕ) → bytes_eq xs ys ≡ true → xs ≡ ys
equal xs ys h = search (rules, bytes_eq-Decides)

same_bytes : (xs ys : List ℕ) → xs ≡ ys → bytes_eq xs ys ≡ true
same_bytes xs ys h = search (rules, bytes_eq-Decides)

some_chosen : {X : Type 0} (b : Bool) (x : X) (o : Option X) → IsSome o → IsSome (cond b (Some x) o)
some_chosen true x o h = search
some_chosen false x o h = h

found_chosen : {X : Type 0} (P : X → Type 0) (b : Bool) (x : X) (o : Option X) → (b ≡ true → P x) → IfSome o P → IfSome (cond b (Some x) o) P
found_chosen P true x o new old = new refl
found_chosen P false x o new old = old

new_there : (b : Bool) (i : ℕ) (o : Option ℕ) → b ≡ true → IsSome (cond b (Some i) o)
new_there true i o h = search
new_there false i o h = cc h

is_named : {X : Type 0} (P : X → Type 0) (o : Option X) (x : X) → o ≡ Some x → P x → IsSomeAnd o P
is_named P o x e p = subst (λ z. IsSomeAnd z P) (sym e) p

-- nothing is answered before an entry is put in
pub nothing_yet : {X : Type 0} (name_of : X → List ℕ) (xs : List X) (look : List ℕ → Option ℕ) → ((name : List ℕ) → look name ≡ None) → LooksUp name_of xs (take 0 xs) look
nothing_yet name_of xs look none = record {
  sound = λ name. subst (λ o. IfSome o (λ i. IsSomeAnd (slice_get xs i) (λ x. name_of x ≡ name))) (sym (none name)) tt;
  whole = λ k d below. absurd (omega (arith, below));
}

-- one more entry, put in under its name
pub looks_more :
    {X : Type 0} (name_of : X → List ℕ) (xs : List X) (i : ℕ) (d : X) (old new : List ℕ → Option ℕ) (name : List ℕ)
    → i < length xs → LooksUp name_of xs (take i xs) old → name ≡ name_of (get_or xs i d) → ((asked : List ℕ) → new asked ≡ cond (bytes_eq name asked) (Some i) (old asked))
    → LooksUp name_of xs (take (i + 1) xs) new
looks_more name_of xs i d old new name lt has named after = record {
  sound = λ asked. subst (λ o. IfSome o (λ k. IsSomeAnd (slice_get xs k) (λ x. name_of x ≡ asked))) (sym (after asked))
      (found_chosen (λ k. IsSomeAnd (slice_get xs k) (λ x. name_of x ≡ asked)) (bytes_eq name asked) i (old asked)
      (λ same. is_named (λ x. name_of x ≡ asked) (slice_get xs i) (get_or xs i d) (slice_get-get_or xs i d lt) (sym named ∙ equal name asked same)) (has.sound asked));
  whole = All-more (λ x. IsSome (new (name_of x))) xs i d lt (λ k e below. subst IsSome (sym (after _)) (some_chosen (bytes_eq name _) i (old _) (has.whole k e below)))
      (subst IsSome (sym (after (name_of (get_or xs i d)))) (new_there (bytes_eq name (name_of (get_or xs i d))) i (old _) (same_bytes name (name_of (get_or xs i d)) named)));
}

some_not_none : {X : Type 0} (o : Option X) → IsSome o → o ≡ None → ⊥
some_not_none None h e = cc h
some_not_none (Some x) h e = cc e

other_name : {X : Type 0} (name_of : X → List ℕ) (xs : List X) (asked : List ℕ) (i : ℕ) → All (λ x. name_of x ≢ asked) xs → IsSomeAnd (slice_get xs i) (λ x. name_of x ≡ asked) → ⊥
other_name name_of xs asked i others named = elim (slice_get_cases xs i).1 [
  | inl (x, lt, here, is) ↦ others i x lt (ap name_of is ∙ rw here at named)
  | inr (past, here) ↦ rw here at named
]

-- nothing is answered exactly where no entry has the name
none_answered :
    {X : Type 0} (name_of : X → List ℕ) (xs : List X) (look : List ℕ → Option ℕ) (asked : List ℕ) → LooksUp name_of xs xs look
    → (look asked ≡ None) ↔ All (λ x. name_of x ≢ asked) xs
none_answered name_of xs look asked has = (
  λ none k d below same. some_not_none (look asked) (subst (λ n. IsSome (look n)) same (has.whole k d below)) none,
  λ others. nothing (look asked) (has.sound asked) others,
)
  where
    nothing : (o : Option ℕ) → IfSome o (λ i. IsSomeAnd (slice_get xs i) (λ x. name_of x ≡ asked)) → All (λ x. name_of x ≢ asked) xs → o ≡ None
    nothing None h others = refl
    nothing (Some i) h others = absurd (other_name name_of xs asked i others h)

module _
    {X I : Type 0} (name_of : X → List ℕ) (index : I → ℕ) (xs : List X) (look : List ℕ → Option ℕ) (asked : List ℕ) (o : Option I) (has : LooksUp name_of xs xs look)
    (answer : option_map index o ≡ look asked) where
  unmapped : (o : Option I) → option_map index o ≡ None → o ≡ None
  unmapped None e = refl
  unmapped (Some i) e = absurd cc

  -- what is told is none exactly where no entry has the name
  pub told_none : (o ≡ None) ↔ All (λ x. name_of x ≢ asked) xs
  told_none =
      let none = none_answered name_of xs look asked has in
      (λ e. none.0 (sym answer ∙ ap (option_map index) e), λ others. unmapped o (answer ∙ none.1 others))

  found_in : (o : Option I) → IfSome (option_map index o) (λ i. IsSomeAnd (slice_get xs i) (λ x. name_of x ≡ asked)) → IfSome o (λ i. IsSomeAnd (slice_get xs (index i)) (λ x. name_of x ≡ asked))
  found_in None h = h
  found_in (Some i) h = h

  -- what is told has the name
  pub told_found : IfSome o (λ i. IsSomeAnd (slice_get xs (index i)) (λ x. name_of x ≡ asked))
  told_found = found_in o (subst (λ z. IfSome z (λ i. IsSomeAnd (slice_get xs i) (λ x. name_of x ≡ asked))) (sym answer) (has.sound asked))
