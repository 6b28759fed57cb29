-- How an order of names grows, and what it finds.
use Rattle.std.proofs.Common.{rules, Bor, ℕ, ◌<◌, ◌+◌, ◌≡◌, ◌≢◌, ◌∙◌, List, Bool, true, false, cond, length, take, get_or, Option, Some, None, All, inl, inr, refl, sym, subst, ap}
use Rattle.std.specs.Prelude.{IfSome, IsSomeAnd, slice_get}
use Rattle.std.specs.Option.{IsSome}
use Rattle.std.specs.BTreeMap.{BTreeMap, UpdatesBy}
use Rattle.std.specs.Cmp.Lexicographic.{slice_cmp}
use Rattle.std.specs.Ordering.{nat_cmp}
use Rattle.std.specs.Str.{bytes_eq}
use Rattle.std.proofs.lemmas.List.Elements.{All-more}
use Rattle.std.proofs.lemmas.Map.Text.{btree_map_updates_str}
use Rattle.std.proofs.lemmas.Option.{slice_get-get_or, slice_get_cases}
use Rattle.std.proofs.lemmas.Slice.Eq.{bytes_eq-Decides}
use Rattle.teg_net.specs.declared.entries.Transition.{Transition}
use Rattle.teg_net.specs.declared.entries.TransitionId.{TransitionId}
use Rattle.teg_net.specs.NameOrders.{HasNames, id_named}

some_chosen : {X : Type 0} (b : Bool) (x : X) (o : Option X) → IsSome o → IsSome (cond b (Some x) o)
some_chosen true x o h = search
some_chosen false x o h = h

found_chosen : {X : Type 0} (P : X → Type 0) (b : Bool) (x : X) (o : Option X) → (b ≡ true → P x) → IfSome o P → IfSome (cond b (Some x) o) P
found_chosen P true x o new old = new refl
found_chosen P false x o new old = old

is_named : {X : Type 0} (P : X → Type 0) (o : Option X) (x : X) → o ≡ Some x → P x → IsSomeAnd o P
is_named P o x e p = subst (λ z. IsSomeAnd z P) (sym e) p

-- one more transition, put in under its name
pub has_more : (ts : List Transition) (i : ℕ) (d : Transition) (old new : BTreeMap (Bor (List ℕ)) TransitionId) (name : List ℕ) (id : TransitionId)
    → i < length ts → HasNames ts (take i ts) old → name ≡ (get_or ts i d).name → id.index ≡ i
    → UpdatesBy (λ x y. slice_cmp nat_cmp x.now y.now) (λ k. slice_cmp nat_cmp name k.now) old new (Some id) → HasNames ts (take (i + 1) ts) new
has_more ts i d old new name id lt has named at updates = record {
  sound = λ asked. subst (λ o. IfSome o (λ x. IsSomeAnd (slice_get ts x.index) (λ t. t.name ≡ asked))) (sym (after asked))
      (found_chosen (λ x. IsSomeAnd (slice_get ts x.index) (λ t. t.name ≡ asked)) (bytes_eq name asked) id (id_named old asked) (λ same. here asked same) (has.sound asked));
  whole = All-more (λ t. IsSome (id_named new t.name)) ts i d lt (λ k e below. subst IsSome (sym (after _)) (some_chosen (bytes_eq name _) id (id_named old _) (has.whole k e below)))
      (subst IsSome (sym (after (get_or ts i d).name)) (new_there (bytes_eq name (get_or ts i d).name) (same_bytes name (get_or ts i d).name named)));
}
  where
    after : (asked : List ℕ) → id_named new asked ≡ cond (bytes_eq name asked) (Some id) (id_named old asked)
    after asked = btree_map_updates_str name old new (Some id) updates asked

    equal : (xs ys : List ℕ) → bytes_eq xs ys ≡ true → xs ≡ ys
    equal xs ys h = search (rules, bytes_eq-Decides)

    here : (asked : List ℕ) → bytes_eq name asked ≡ true → IsSomeAnd (slice_get ts id.index) (λ t. t.name ≡ asked)
    here asked same = rw at (is_named (λ t. t.name ≡ asked) (slice_get ts i) (get_or ts i d) (slice_get-get_or ts i d lt) (sym named ∙ equal name asked same))

    same_bytes : (xs ys : List ℕ) → xs ≡ ys → bytes_eq xs ys ≡ true
    same_bytes xs ys h = search (rules, bytes_eq-Decides)

    new_there : (b : Bool) → b ≡ true → IsSome (cond b (Some id) (id_named old (get_or ts i d).name))
    new_there true h = search
    new_there false h = cc h

-- what is found by name
pub found_by_name : (ts : List Transition) (ids : BTreeMap (Bor (List ℕ)) TransitionId) (asked : List ℕ) (o : Option TransitionId) → HasNames ts ts ids → o ≡ id_named ids asked
    → IfSome o (λ id. IsSomeAnd (slice_get ts id.index) (λ t. t.name ≡ asked))
found_by_name ts ids asked o has e = subst (λ z. IfSome z (λ id. IsSomeAnd (slice_get ts id.index) (λ t. t.name ≡ asked))) (sym e) (has.sound asked)

some_not_none : {X : Type 0} (o : Option X) → IsSome o → o ≡ None → ⊥
some_not_none None h e = cc h
some_not_none (Some x) h e = cc e

other_name : (ts : List Transition) (asked : List ℕ) (id : TransitionId) → All (λ t. t.name ≢ asked) ts → IsSomeAnd (slice_get ts id.index) (λ t. t.name ≡ asked) → ⊥
other_name ts asked id others named = elim (slice_get_cases ts id.index).1 [
  | inl (t, lt, here, is) ↦ others id.index t lt (ap (λ (x : Transition). x.name) is ∙ rw here at named)
  | inr (past, here) ↦ rw here at named
]

-- nothing is found exactly where no transition has the name
pub none_by_name : (ts : List Transition) (ids : BTreeMap (Bor (List ℕ)) TransitionId) (asked : List ℕ) (o : Option TransitionId) → HasNames ts ts ids → o ≡ id_named ids asked
    → (o ≡ None → All (λ t. t.name ≢ asked) ts) × (All (λ t. t.name ≢ asked) ts → o ≡ None)
none_by_name ts ids asked o has e = (others, nothing o (found_by_name ts ids asked o has e))
  where
    others : o ≡ None → All (λ t. t.name ≢ asked) ts
    others none k d below same = some_not_none (id_named ids asked) (subst (λ n. IsSome (id_named ids n)) same (has.whole k d below)) (sym e ∙ none)

    nothing : (z : Option TransitionId) → IfSome z (λ id. IsSomeAnd (slice_get ts id.index) (λ t. t.name ≡ asked)) → All (λ t. t.name ≢ asked) ts → z ≡ None
    nothing None h others = refl
    nothing (Some id) h others = absurd (other_name ts asked id others h)
