-- Potentials spread from the root to the followers of what has one.
use Rattle.std.proofs.Common.{ℕ, ◌+◌, ◌<◌, ◌≤◌, ◌≡◌, ◌≢◌, List, [], ◌∷◌, ◌++◌, AllPairs, Option, Some, None, cond, is_none, count_by, length, get_or}
use Rattle.std.proofs.Common.{set, refl, sym, ap, subst, ◌∙◌, arith, inl, inr, ⊎_elim}
use Rattle.std.specs.Prelude.{ℤ, pos, All, Any, ◌⊎◌}
use Rattle.std.proofs.lemmas.List.Sums.{sum_by-set}
use Rattle.std.proofs.lemmas.List.Elements.{All-push}
use Rattle.std.proofs.lemmas.List.Quantifiers.{Any-push}
use Rattle.std.proofs.lemmas.Bool.{cases_eq, cases_lt}
use Rattle.std.proofs.lemmas.List.{get_or-set_same, get_or-set_other, length-set, length_push, get_or_push, get_or_append_left}
use Rattle.std.proofs.lemmas.List.{append-nil}
use Rattle.teg_net.specs.Nets.{NetLists}
use Rattle.teg_net.specs.Circuits.{from_of}
use Rattle.teg_net.specs.Parts.{IsMember}
use Rattle.teg_howard.specs.declared.following.Followers.{Followers}
use Rattle.policy_rounds.specs.Policies.{Policy}
use Rattle.teg_howard.specs.FoundCircuits.{value_held, IsFollower}
use Rattle.teg_howard.specs.Following.{IsFollowerOf, IsHighestFollowerBelow, AreFollowers, listed_member, Followed}
use Rattle.teg_howard.proofs.Values.{some_apart, cases_option}

abbrev counted : Option ℤ → ℕ
counted o = cond (is_none o) 1 0

-- one value more leaves fewer without
pub spread_less : (vs : List (Option ℤ)) (t : ℕ) (z : ℤ) → t < length vs → value_held vs t ≡ None → count_by is_none (set vs t (Some z)) < count_by is_none vs
spread_less vs t z l none =
    let s = sum_by-set counted vs t (Some z) None l in
    let one : counted (value_held vs t) ≡ 1 = ap counted none in
    omega (arith, s, one)

-- ---- lists with one element more
pub Pairs_push : {A : Type 0} (R : A → A → Type 0) (xs : List A) (x : A) → AllPairs R xs → All (λ y. R y x) xs → AllPairs R (xs ++ x ∷ [])
Pairs_push R xs x h p i j d l m =
    let long = length_push xs x in
    let first = get_or_append_left xs (x ∷ []) d i (omega arith) in
    ⊎_elim
    (λ (q : j < length xs). subst (λ y. R y (get_or (xs ++ x ∷ []) j d)) (sym first) (subst (R (get_or xs i d)) (sym (get_or_append_left xs (x ∷ []) d j q)) (h i j d l q)))
    (λ (q : length xs ≤ j).
    let at : length xs ≡ j = omega arith in
    subst (λ y. R y (get_or (xs ++ x ∷ []) j d)) (sym first) (subst (R (get_or xs i d)) (sym (get_or_push xs x d j at)) (p i d (omega arith))))
    (cases_lt j (length xs))

-- an element of the longer list is the last or one of the others
All_rest : {A : Type 0} (P : A → Type 0) (xs : List A) (x : A) → All P (xs ++ x ∷ []) → All P xs
All_rest P xs x h i d l = subst P (get_or_append_left xs (x ∷ []) d i l) (h i d (omega (arith, length_push xs x)))

All_last : {A : Type 0} (P : A → Type 0) (xs : List A) (x : A) → All P (xs ++ x ∷ []) → P x
All_last P xs x h = subst P (get_or_push xs x x (length xs) refl) (h (length xs) x (omega (arith, length_push xs x)))

Pairs_rest : {A : Type 0} (R : A → A → Type 0) (xs : List A) (x : A) → AllPairs R (xs ++ x ∷ []) → AllPairs R xs
Pairs_rest R xs x h i j d l m =
    let long = length_push xs x in
    let a = get_or_append_left xs (x ∷ []) d i (omega arith) in
    let b = get_or_append_left xs (x ∷ []) d j m in
    subst (λ y. R y (get_or xs j d)) a (subst (R (get_or (xs ++ x ∷ []) i d)) b (h i j d l (omega arith)))

Pairs_last : {A : Type 0} (R : A → A → Type 0) (xs : List A) (x : A) → AllPairs R (xs ++ x ∷ []) → All (λ y. R y x) xs
Pairs_last R xs x h i d l =
    let long = length_push xs x in
    let a = get_or_append_left xs (x ∷ []) d i l in
    let b = get_or_push xs x d (length xs) refl in
    subst (λ y. R y x) a (subst (R (get_or (xs ++ x ∷ []) i d)) b (h i (length xs) d l (omega arith)))

Any_push : {A : Type 0} (P : A → Type 0) (xs : List A) (x : A) → Any P xs → Any P (xs ++ x ∷ [])
Any_push P xs x w = let l = w.2 in (w.0, w.1, omega (arith, length_push xs x), get_or_append_left xs (x ∷ []) w.1 w.0 w.2 ∙ w.3, w.4)

Any_split : {A : Type 0} (P : A → Type 0) (xs : List A) (x : A) → Any P (xs ++ x ∷ []) → P x ⊎ Any P xs
Any_split P xs x w =
    let l = w.2 in
    ⊎_elim
    (λ (q : w.0 < length xs). inr (w.0, w.1, q, sym (get_or_append_left xs (x ∷ []) w.1 w.0 q) ∙ w.3, w.4))
    (λ (q : length xs ≤ w.0).
    let at : length xs ≡ w.0 = omega (arith, length_push xs x) in
    inl (subst P (sym w.3 ∙ get_or_push xs x w.1 w.0 at) w.4))
    (cases_lt w.0 (length xs))

module _ (net : NetLists) (parts : List ℕ) (part : ℕ) (π : Policy) (root : ℕ) where
  abbrev At : ℕ → ℕ → Type 0
  At x t = IsFollowerOf net parts part π root x t

  abbrev start_of : ℕ → ℕ
  start_of t = from_of net (π t)

  -- ---- the followers, linked
  pub record LinkedTo (highest lower : List (Option ℕ)) (i : ℕ) : Type 0 where
    pub highest_count : length highest ≡ length parts
    pub lower_count : length lower ≡ length parts
    pub highest_ : (x : ℕ) → x < length parts → IsHighestFollowerBelow net parts part π root x i (get_or highest x None)
    pub lower_ : (x t : ℕ) → t < i → At x t → IsHighestFollowerBelow net parts part π root x t (get_or lower t None)

  still : (x i : ℕ) (o : Option ℕ) → (At x i → ⊥) → IsHighestFollowerBelow net parts part π root x i o → IsHighestFollowerBelow net parts part π root x (i + 1) o
  still x i None n h = λ t l a.
      ⊎_elim
      (λ (q : t < i). h t q a)
      (λ (q : i ≤ t). let e : t ≡ i = omega arith in n (subst (At x) e a))
      (cases_lt t i)
  still x i (Some q) n h =
      let low = h.0 in (
        omega arith,
        h.1,
        λ t l m a.
            ⊎_elim
            (λ (s : t < i). h.2 t l s a)
            (λ (s : i ≤ t). let e : t ≡ i = omega arith in n (subst (At x) e a))
            (cases_lt t i),
      )

  pub linked_skip : (highest lower : List (Option ℕ)) (i : ℕ) → LinkedTo highest lower i → ((x : ℕ) → At x i → ⊥) → LinkedTo highest lower (i + 1)
  linked_skip highest lower i h none = record {
    highest_count = h.highest_count;
    lower_count = h.lower_count;
    highest_ = λ x l. still x i (get_or highest x None) (none x) (h.highest_ x l);
    lower_ = λ x t l a.
        ⊎_elim
        (λ (q : t < i). h.lower_ x t q a)
        (λ (q : i ≤ t). let e : t ≡ i = omega arith in absurd (none x (subst (At x) e a)))
        (cases_lt t i);
  }

  pub linked_more : (highest lower : List (Option ℕ)) (i : ℕ) → LinkedTo highest lower i → At (start_of i) i → start_of i < length parts
      → LinkedTo (set highest (start_of i) (Some i)) (set lower i (get_or highest (start_of i) None)) (i + 1)
  linked_more highest lower i h here l =
      let x : ℕ = start_of i in
      let old : Option ℕ = get_or highest x None in
      let x_in : x < length highest = let c = h.highest_count in omega arith in
      let i_in : i < length lower = let c = h.lower_count in let m = here.member.in_range in omega arith in
      record {
        highest_count = length-set highest x (Some i) ∙ h.highest_count;
        lower_count = length-set lower i old ∙ h.lower_count;
        highest_ = λ y m.
            ⊎_elim
            (λ (q : y ≡ x).
            let read : get_or (set highest x (Some i)) y None ≡ Some i = ap (λ z. get_or (set highest x (Some i)) z None) q ∙ get_or-set_same highest x (Some i) None x_in in
            subst (IsHighestFollowerBelow net parts part π root y (i + 1)) (sym read) (omega arith, subst (λ z. At z i) (sym q) here, λ t a b c. absurd (omega arith)))
            (λ (q : y ≢ x). subst (IsHighestFollowerBelow net parts part π root y (i + 1))
            (sym (get_or-set_other highest x y (Some i) None q)) (still y i (get_or highest y None) (λ a. q (sym a.starts)) (h.highest_ y m)))
            (cases_eq y x);
        lower_ = λ y t m a.
            ⊎_elim
            (λ (q : t ≡ i).
            let read : get_or (set lower i old) t None ≡ old = ap (λ z. get_or (set lower i old) z None) q ∙ get_or-set_same lower i old None i_in in
            let at : y ≡ x = sym a.starts ∙ ap start_of q in
            subst (IsHighestFollowerBelow net parts part π root y t) (sym read)
            (subst (λ z. IsHighestFollowerBelow net parts part π root y z old) (sym q)
            (subst (λ z. IsHighestFollowerBelow net parts part π root z i old) (sym at) (h.highest_ x l))))
            (λ (q : t ≢ i). subst (IsHighestFollowerBelow net parts part π root y t) (sym (get_or-set_other lower i t old None q)) (h.lower_ y t (omega arith) a))
            (cases_eq t i);
      }

  -- ---- the members that wait
  -- a member that waits: it has no value, nor has any lower one with its start, and its start has one
  pub record Waits (vs : List (Option ℤ)) (t : ℕ) : Type 0 where
    pub at : At (start_of t) t
    pub starts : value_held vs (start_of t) ≢ None
    pub without : (u : ℕ) → u ≤ t → At (start_of t) u → value_held vs u ≡ None

  -- a follower is covered by one that waits, at its start and not below it
  abbrev pub Covers : ℕ → ℕ → Type 0
  Covers u t = (u ≤ t) × (start_of u ≡ start_of t)

  pub record Spreading (a b : ℕ) (vs : List (Option ℤ)) (waiting : List ℕ) : Type 0 where
    pub followed : Followed net parts part a b root π vs
    pub waits : All (Waits vs) waiting
    pub apart : AllPairs (λ t u. start_of t ≢ start_of u) waiting
    pub covered : (u : ℕ) → IsFollower net parts part π vs u → Any (Covers u) waiting

  -- the last that waits
  pub spread_last : (a b : ℕ) (vs : List (Option ℤ)) (rest : List ℕ) (t : ℕ) → Spreading a b vs (rest ++ t ∷ []) → Waits vs t
  spread_last a b vs rest t h = All_last (Waits vs) rest t h.waits

  -- the member that is given its value was a follower
  pub waits_follows : (vs : List (Option ℤ)) (t : ℕ) → Waits vs t → IsFollower net parts part π vs t
  waits_follows vs t h = record { member = h.at.member; without = h.without t (omega arith) h.at; starts = h.starts }

  -- ---- one link more on the list
  pub record Added (vs : List (Option ℤ)) (old : List ℕ) (o : Option ℕ) (x bound : ℕ) : Type 0 where
    pub link : IsHighestFollowerBelow net parts part π root x bound o
    pub valued : value_held vs x ≢ None
    pub free : (u : ℕ) → u < bound → At x u → value_held vs u ≡ None
    pub alone : All (λ t. start_of t ≢ x) old

  add_waits : (vs : List (Option ℤ)) (old : List ℕ) (o : Option ℕ) (x bound : ℕ) → Added vs old o x bound → All (Waits vs) old → All (Waits vs) (old ++ listed_member o)
  add_waits vs old None x bound h w = subst (All (Waits vs)) (sym (append-nil old)) w
  add_waits vs old (Some t) x bound h w =
      let e = h.link.1.starts in
      let low = h.link.0 in
      All-push (Waits vs) old t w (record {
        at = subst (λ y. At y t) (sym e) h.link.1;
        starts = subst (λ y. value_held vs y ≢ None) (sym e) h.valued;
        without = λ u l m. h.free u (omega arith) (subst (λ y. At y u) e m);
      })

  add_apart : (vs : List (Option ℤ)) (old : List ℕ) (o : Option ℕ) (x bound : ℕ) → Added vs old o x bound
      → AllPairs (λ t u. start_of t ≢ start_of u) old → AllPairs (λ t u. start_of t ≢ start_of u) (old ++ listed_member o)
  add_apart vs old None x bound h w = subst (AllPairs (λ t u. start_of t ≢ start_of u)) (sym (append-nil old)) w
  add_apart vs old (Some t) x bound h w =
      Pairs_push (λ t u. start_of t ≢ start_of u) old t w (λ i d l. subst (λ y. start_of (get_or old i d) ≢ y) (sym h.link.1.starts) (h.alone i d l))

  add_any : (old : List ℕ) (o : Option ℕ) (P : ℕ → Type 0) → Any P old → Any P (old ++ listed_member o)
  add_any old None P w = subst (Any P) (sym (append-nil old)) w
  add_any old (Some t) P w = Any_push P old t w

  -- a follower at the start that is below the bound is covered
  add_covers : (vs : List (Option ℤ)) (old : List ℕ) (o : Option ℕ) (x bound : ℕ) → Added vs old o x bound → (u : ℕ) → u < bound → At x u → Any (Covers u) (old ++ listed_member o)
  add_covers vs old None x bound h u l m = absurd (h.link u l m)
  add_covers vs old (Some t) x bound h u l m =
      ⊎_elim
      (λ (q : t < u). absurd (h.link.2 u q l m))
      (λ (q : u ≤ t). Any-push (Covers u) old t (q, m.starts ∙ sym h.link.1.starts))
      (cases_lt t u)

  add_all : (P : ℕ → Type 0) (old : List ℕ) (o : Option ℕ) → All P old → ((t : ℕ) → o ≡ Some t → P t) → All P (old ++ listed_member o)
  add_all P old None h p = subst (All P) (sym (append-nil old)) h
  add_all P old (Some t) h p = All-push P old t h (p t refl)

  link_at : (x bound : ℕ) (o : Option ℕ) → IsHighestFollowerBelow net parts part π root x bound o → (t : ℕ) → o ≡ Some t → start_of t ≡ x
  link_at x bound None h t e = let f : ⊥ = cc in absurd f
  link_at x bound (Some q) h t e = let s : q ≡ t = cc in subst (λ y. start_of y ≡ x) s h.1.starts

  -- only the root has a value, and its highest follower waits
  pub spread_start : (a b : ℕ) (vs : List (Option ℤ)) (f : Followers) → IsMember parts part root → AreFollowers net parts part π root f → Followed net parts part a b root π vs
      → ((t : ℕ) → t ≢ root → value_held vs t ≡ None) → Spreading a b vs ([] ++ listed_member (get_or f.highest.items root None))
  spread_start a b vs f member links followed only =
      let o : Option ℕ = get_or f.highest.items root None in
      let start = followed.valued.start in
      let add : Added vs [] o root (length parts) = record {
        link = links.highest root member.in_range;
        valued = some_apart (value_held vs root) (pos 0) start;
        free = λ u l h. only u h.other;
        alone = λ i d l. absurd (omega arith);
      } in
      record {
        followed = followed;
        waits = add_waits vs [] o root (length parts) add (λ i d l. absurd (omega arith));
        apart = add_apart vs [] o root (length parts) add (λ i j d l m. absurd (omega arith));
        covered = λ u h.
            let other : u ≢ root = λ (e : u ≡ root). some_apart (value_held vs u) (pos 0) (ap (value_held vs) e ∙ start) h.without in
            let at : start_of u ≡ root = ⊎_elim (λ (e : start_of u ≡ root). e) (λ (n : start_of u ≢ root). absurd (h.starts (only (start_of u) n))) (cases_eq (start_of u) root) in
            add_covers vs [] o root (length parts) add u h.member.in_range (record { member = h.member; other = other; starts = at });
      }

  -- the member that waited last gets its value, and its next and its own highest follower wait
  pub spread_more : (a b : ℕ) (vs : List (Option ℤ)) (rest : List ℕ) (t : ℕ) (z : ℤ) (f : Followers)
      → AreFollowers net parts part π root f → Spreading a b vs (rest ++ t ∷ []) → Followed net parts part a b root π (set vs t (Some z))
      → Spreading a b (set vs t (Some z)) ((rest ++ listed_member (get_or f.lower.items t None)) ++ listed_member (get_or f.highest.items t None))
  spread_more a b vs rest t z f links h followed =
      let new : List (Option ℤ) = set vs t (Some z) in
      let ht : Waits vs t = All_last (Waits vs) rest t h.waits in
      let none : value_held vs t ≡ None = ht.without t (omega arith) ht.at in
      let t_in : t < length vs = let r = ht.at.member.in_range in let c = h.followed.valued.count in omega arith in
      let here : value_held new t ≡ Some z = get_or-set_same vs t (Some z) None t_in in
      let there = λ (u : ℕ) (ne : u ≢ t). get_or-set_other vs t u (Some z) None ne in
      let has = λ (u : ℕ) (n : value_held vs u ≢ None).
      let r : value_held new u ≢ None =
      ⊎_elim
      (λ (q : u ≡ t). some_apart (value_held new u) z (ap (value_held new) q ∙ here))
      (λ (q : u ≢ t). λ e. n (sym (there u q) ∙ e))
      (cases_eq u t) in r in
      let alone : All (λ w. start_of w ≢ start_of t) rest = Pairs_last (λ w u. start_of w ≢ start_of u) rest t h.apart in
      let old = All_rest (Waits vs) rest t h.waits in
      let x : ℕ = start_of t in
      let lower : Option ℕ = get_or f.lower.items t None in
      let highest : Option ℕ = get_or f.highest.items t None in
      let first : Added new rest lower x t = record {
        link = links.lower x t ht.at;
        valued = has x ht.starts;
        free = λ u l m. let q : u ≢ t = omega arith in there u q ∙ ht.without u (omega arith) m;
        alone = alone;
      } in
      let one : List ℕ = rest ++ listed_member lower in
      let waits : All (Waits new) rest = λ i d l.
      let w = old i d l in
      let y : ℕ = get_or rest i d in
      let r : Waits new y = record {
        at = w.at;
        starts = has (start_of y) w.starts;
        without = λ u k m.
            let q : u ≢ t = λ (e : u ≡ t). alone i d l (sym m.starts ∙ ap start_of e) in
            there u q ∙ w.without u k m;
      } in r in
      let valued : All (λ w. value_held vs (start_of w) ≢ None) one =
      add_all (λ w. value_held vs (start_of w) ≢ None) rest lower (λ i d l. (old i d l).starts)
      (λ w e. subst (λ y. value_held vs y ≢ None) (sym (link_at x t lower first.link w e)) ht.starts) in
      let second : Added new one highest t (length parts) = record {
        link = links.highest t ht.at.member.in_range;
        valued = some_apart (value_held new t) z here;
        free = λ u l m.
            let q : u ≢ t = λ (e : u ≡ t). ht.starts (ap (value_held vs) (ap start_of (sym e) ∙ m.starts) ∙ none) in
            there u q
            ∙ ⊎_elim
            (λ (n : value_held vs u ≡ None). n)
            (λ (w : (y : ℤ) × (value_held vs u ≡ Some y)).
            let e = h.followed.valued.sums u w.0 w.1 m.other in
            absurd (some_apart (value_held vs t) e.0 (ap (value_held vs) (sym m.starts) ∙ e.1) none))
            (cases_option (value_held vs u));
        alone = λ i d l e. valued i d l (ap (value_held vs) e ∙ none);
      } in
      record {
        followed = followed;
        waits = add_waits new one highest t (length parts) second (add_waits new rest lower x t first waits);
        apart = add_apart new one highest t (length parts) second (add_apart new rest lower x t first (Pairs_rest (λ w u. start_of w ≢ start_of u) rest t h.apart));
        covered = λ u g.
            let q : u ≢ t = λ (e : u ≡ t). some_apart (value_held new u) z (ap (value_held new) e ∙ here) g.without in
            let before : value_held vs u ≡ None = sym (there u q) ∙ g.without in
            let other : u ≢ root = λ (e : u ≡ root). some_apart (value_held vs u) (pos 0) (ap (value_held vs) e ∙ h.followed.valued.start) before in
            ⊎_elim
            (λ (e : start_of u ≡ t). add_covers new one highest t (length parts) second u g.member.in_range (record { member = g.member; other = other; starts = e }))
            (λ (e : start_of u ≢ t).
            let was : IsFollower net parts part π vs u = record { member = g.member; without = before; starts = λ n. g.starts (there (start_of u) e ∙ n) } in
            ⊎_elim
            (λ (c : Covers u t).
            let low : u < t = let k = c.0 in omega arith in
            add_any one highest (Covers u) (add_covers new rest lower x t first u low (record { member = g.member; other = other; starts = c.1 })))
            (λ (c : Any (Covers u) rest). add_any one highest (Covers u) (add_any rest lower (Covers u) c))
            (Any_split (Covers u) rest t (h.covered u was)))
            (cases_eq (start_of u) t);
      }
