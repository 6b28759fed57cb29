-- The loops of the numbering.
use Rattle.std.proofs.Common.{ℕ, ◌+◌, ◌<◌, ◌≤◌, ◌≡◌, ◌≢◌, List, Option, Some, None, Bool, true, false, length, get_or, set, sym, ap, subst, ◌∙◌, arith, ⊎_elim}
use Rattle.std.proofs.lemmas.Bool.{cases_lt}
use Rattle.std.proofs.lemmas.List.{get_or-set_same, length-set}
use Rattle.teg_net.specs.declared.entries.PlaceId.{PlaceId}
use Rattle.teg_net.specs.Nets.{NetLists}
use Rattle.teg_net.specs.Circuits.{from_of}
use Rattle.teg_net.specs.Parts.{to_of, IsPlaceOfPart}
use Rattle.teg_parts.specs.PartNumbers.{component_at, part_number, without, BlocksComponent}
use Rattle.teg_parts.proofs.Marks.{set_flag, set_flag_before}
use Rattle.teg_net.proofs.Reading.{same_id}

-- ---- which components are blocked
pub record BlockedTo (net : NetLists) (components : List ℕ) (numbers : List (Option ℕ)) (blocked : List Bool) (i : ℕ) : Type 0 where
  pub count : length blocked ≡ length components
  pub sound : (c : ℕ) → get_or blocked c false ≡ true → (p : PlaceId) × BlocksComponent net components numbers c p
  pub complete : (c : ℕ) (p : PlaceId) → p.index < i → BlocksComponent net components numbers c p → get_or blocked c false ≡ true

module _ (net : NetLists) (components : List ℕ) (numbers : List (Option ℕ)) where
  pub blocked_more : (blocked : List Bool) (p : PlaceId) → BlockedTo net components numbers blocked p.index
      → component_at components (to_of net p) < length components → BlocksComponent net components numbers (component_at components (to_of net p)) p
      → BlockedTo net components numbers (set blocked (component_at components (to_of net p)) true) (p.index + 1)
  blocked_more blocked p h l b =
      let u : ℕ = component_at components (to_of net p) in
      let in' : u < length blocked = let c = h.count in omega arith in
      record {
        count = length-set blocked u true ∙ h.count;
        sound = λ c t.
            ⊎_elim
            (λ (q : c ≡ u). (p, subst (λ x. BlocksComponent net components numbers x p) (sym q) b))
            (λ (q : get_or blocked c false ≡ true). h.sound c q)
            (set_flag_before blocked u c t);
        complete = λ c q m k.
            ⊎_elim
            (λ (s : q.index < p.index). set_flag blocked u c in' (h.complete c q s k))
            (λ (s : p.index ≤ q.index).
            let same : q ≡ p = same_id q p (omega arith) in
            let at : c ≡ u = sym k.enters ∙ ap (λ x. component_at components (to_of net x)) same in
            ap (λ x. get_or (set blocked u true) x false) at ∙ get_or-set_same blocked u true false in')
            (cases_lt q.index p.index);
      }

  pub blocked_skip : (blocked : List Bool) (p : PlaceId) → BlockedTo net components numbers blocked p.index
      → (BlocksComponent net components numbers (component_at components (to_of net p)) p → ⊥) → BlockedTo net components numbers blocked (p.index + 1)
  blocked_skip blocked p h none = record {
    count = h.count;
    sound = h.sound;
    complete = λ c q m k.
        ⊎_elim
        (λ (s : q.index < p.index). h.complete c q s k)
        (λ (s : p.index ≤ q.index).
        let same : q ≡ p = same_id q p (omega arith) in
        let here : BlocksComponent net components numbers c p = subst (BlocksComponent net components numbers c) same k in
        absurd (none (subst (λ x. BlocksComponent net components numbers x p) (sym here.enters) here)))
        (cases_lt q.index p.index);
  }

-- ---- a number is given
pub record GivenTo (components : List ℕ) (old now : List (Option ℕ)) (component number i : ℕ) : Type 0 where
  pub count : length now ≡ length components
  pub given : (t : ℕ) → t < i → component_at components t ≡ component → part_number now t ≡ Some number
  pub kept : (t : ℕ) → component_at components t ≢ component → part_number now t ≡ part_number old t
  pub waiting : (t : ℕ) → i ≤ t → part_number now t ≡ part_number old t
  pub no_more : without now ≤ without old
  pub fewer : (t : ℕ) → t < i → component_at components t ≡ component → part_number old t ≡ None → without now + 1 ≤ without old

-- ---- the marks of the parts
pub record MarkedTo (net : NetLists) (part_of : List ℕ) (count : ℕ) (inner : List Bool) (i : ℕ) : Type 0 where
  pub long : length inner ≡ count
  pub sound : (k : ℕ) → get_or inner k false ≡ true → (q : PlaceId) × IsPlaceOfPart net part_of k q
  pub complete : (k : ℕ) (q : PlaceId) → q.index < i → IsPlaceOfPart net part_of k q → get_or inner k false ≡ true

module _ (net : NetLists) (part_of : List ℕ) (count : ℕ) where
  pub marked_more : (inner : List Bool) (p : PlaceId) (part : ℕ) → MarkedTo net part_of count inner p.index → part < count
      → IsPlaceOfPart net part_of part p → MarkedTo net part_of count (set inner part true) (p.index + 1)
  marked_more inner p part h l b =
      let in' : part < length inner = let c = h.long in omega arith in
      record {
        long = length-set inner part true ∙ h.long;
        sound = λ k t.
            ⊎_elim
            (λ (q : k ≡ part). (p, subst (λ x. IsPlaceOfPart net part_of x p) (sym q) b))
            (λ (q : get_or inner k false ≡ true). h.sound k q)
            (set_flag_before inner part k t);
        complete = λ k q m i.
            ⊎_elim
            (λ (s : q.index < p.index). set_flag inner part k in' (h.complete k q s i))
            (λ (s : p.index ≤ q.index).
            let same : q ≡ p = same_id q p (omega arith) in
            let at : k ≡ part = sym i.from_member.here ∙ (ap (λ x. get_or part_of (from_of net x) 0) same ∙ b.from_member.here) in
            ap (λ x. get_or (set inner part true) x false) at ∙ get_or-set_same inner part true false in')
            (cases_lt q.index p.index);
      }

  pub marked_skip : (inner : List Bool) (p : PlaceId) → MarkedTo net part_of count inner p.index
      → (get_or part_of (from_of net p) 0 ≢ get_or part_of (to_of net p) 0) → MarkedTo net part_of count inner (p.index + 1)
  marked_skip inner p h n = record {
    long = h.long;
    sound = h.sound;
    complete = λ k q m i.
        ⊎_elim
        (λ (s : q.index < p.index). h.complete k q s i)
        (λ (s : p.index ≤ q.index).
        let same : q ≡ p = same_id q p (omega arith) in
        absurd (n (ap (λ x. get_or part_of (from_of net x) 0) (sym same) ∙ (i.from_member.here ∙ (sym i.to_member.here ∙ ap (λ x. get_or part_of (to_of net x) 0) same)))))
        (cases_lt q.index p.index);
  }
