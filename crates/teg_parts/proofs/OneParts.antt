-- A net has one list of parts: the rules of the order leave no choice.
use Rattle.std.proofs.Common.{ℕ, zero, suc, ◌<◌, ◌≤◌, ◌≡◌, ◌≢◌, List, Bool, true, false, length, get_or, sym, ap, subst, ◌∙◌, arith, ⊎_elim}
use Rattle.std.proofs.lemmas.Bool.{cases_eq, cases_lt, cases_Bool}
use Rattle.std.proofs.lemmas.List.{ext_get_or}
use Rattle.teg_net.specs.Nets.{NetLists}
use Rattle.teg_net.specs.Parts.{IsPlaceOfPart}
use Rattle.teg_parts.specs.Partitions.{PartLists, AreStrong, MayTake, AreParts}

abbrev part_at : PartLists → ℕ → ℕ
part_at p t = get_or p.part_of t 0

-- the numbers below k are given to the same transitions
abbrev Agree : PartLists → PartLists → ℕ → Type 0
Agree p q k = (t : ℕ) → t < length p.part_of → part_at p t < k → part_at q t ≡ part_at p t

-- transitions of one part of the first have one part of the second
same_class : (net : NetLists) (p q : List ℕ) → AreStrong net p → AreStrong net q → (t u : ℕ) → t < length p → u < length p → get_or p t 0 ≡ get_or p u 0 → get_or q t 0 ≡ get_or q u 0
same_class net p q h g t u l m e =
    let a = h.count in
    let b = g.count in
    (g.strong t u (omega arith) (omega arith)).1 ((h.strong t u l m).0 e)

module _ (net : NetLists) where
  -- where the part of t has number k in the first, and a later one in the second, that part may take k in the second
  may_take : (p q : PartLists) → AreParts net p → AreParts net q → (k t : ℕ) → Agree p q k → t < length p.part_of → part_at p t ≡ k → k < length p.inner → MayTake net q.part_of k (part_at q t)
  may_take p q h g k t below l e few x y mx ly way apart =
      let lp = h.strong.count in
      let lq = g.strong.count in
      let lx = mx.in_range in
      let x_is : part_at p x ≡ k = same_class net q.part_of p.part_of g.strong h.strong x t (omega arith) (omega arith) mx.here ∙ e in
      let other : part_at p y ≢ k = λ (s : part_at p y ≡ k). apart (same_class net p.part_of q.part_of h.strong g.strong y t (omega arith) l (s ∙ sym e)) in
      let less : part_at p y < k = h.order.may k few x y (record { in_range = omega arith; here = x_is }) (omega arith) way other in
      let same = below y (omega arith) less in
      omega arith

  -- the part of t has number k in the first, and a later one in the second, where some other part has k
  clash : (p q : PartLists) → AreParts net p → AreParts net q → (k t : ℕ) → Agree p q k → Agree q p k → t < length p.part_of → part_at p t ≡ k → k < part_at q t → ⊥
  clash p q h g k t below back l e later =
      let lp = h.strong.count in
      let lq = g.strong.count in
      let few : k < length p.inner = let b = h.below t 0 l in omega arith in
      let in_q : part_at q t < length q.inner = g.below t 0 (omega arith) in
      let w = g.some_member k (omega arith) in
      let u : ℕ = w.0 in
      let lu : u < length p.part_of = let r = w.1.in_range in omega arith in
      let u_is : part_at q u ≡ k = w.1.here in
      let after : k < part_at p u =
      ⊎_elim
      (λ (s : part_at p u < k). let b = below u lu s in absurd (omega arith))
      (λ (s : k ≤ part_at p u).
      ⊎_elim
      (λ (z : part_at p u ≡ k). let c = same_class net p.part_of q.part_of h.strong g.strong u t lu l (z ∙ sym e) in absurd (omega arith))
      (λ (z : part_at p u ≢ k). let r : k < part_at p u = omega arith in r)
      (cases_eq (part_at p u) k))
      (cases_lt (part_at p u) k) in
      let in_p : part_at p u < length p.inner = h.below u 0 lu in
      let low_q = g.order.lowest k (part_at q t) later in_q (may_take p q h g k t below l e few) in
      let low_p = h.order.lowest k (part_at p u) after in_p (may_take q p g h k u back (omega arith) u_is (omega arith)) in
      let a : ℕ = low_q.0 in
      let b : ℕ = low_p.0 in
      let la : a < length p.part_of = let r = low_q.1.in_range in omega arith in
      let lb : b < length p.part_of = low_p.1.in_range in
      let a_is : part_at q a ≡ k = low_q.1.here in
      let b_is : part_at p b ≡ k = low_p.1.here in
      let b_with_t : part_at q b ≡ part_at q t = same_class net p.part_of q.part_of h.strong g.strong b t lb l (b_is ∙ sym e) in
      let a_with_u : part_at p a ≡ part_at p u = same_class net q.part_of p.part_of g.strong h.strong a u (omega arith) (omega arith) (a_is ∙ sym u_is) in
      let one : a < b = low_q.2 b (record { in_range = omega arith; here = b_with_t }) in
      let two : b < a = low_p.2 a (record { in_range = la; here = a_with_u }) in
      omega arith

  -- one number more
  agree_more : (p q : PartLists) → AreParts net p → AreParts net q → (k : ℕ) → Agree p q k → Agree q p k → Agree p q (suc k)
  agree_more p q h g k below back t l m =
      let lp = h.strong.count in
      let lq = g.strong.count in
      ⊎_elim
      (λ (s : part_at p t < k). below t l s)
      (λ (s : k ≤ part_at p t).
      let e : part_at p t ≡ k = omega arith in
      ⊎_elim
      (λ (z : k < part_at q t). absurd (clash p q h g k t below back l e z))
      (λ (z : part_at q t ≤ k).
      ⊎_elim
      (λ (y : part_at q t < k). let b = back t (omega arith) y in absurd (omega arith))
      (λ (y : k ≤ part_at q t). let r : part_at q t ≡ part_at p t = omega arith in r)
      (cases_lt (part_at q t) k))
      (cases_lt k (part_at q t)))
      (cases_lt (part_at p t) k)

  agree : (p q : PartLists) → AreParts net p → AreParts net q → (k : ℕ) → Agree p q k × Agree q p k
  agree p q h g zero = ((λ t l m. absurd (omega arith)), (λ t l m. absurd (omega arith)))
  agree p q h g (suc k) =
      let rest = agree p q h g k in
      (agree_more p q h g k rest.0 rest.1, agree_more q p g h k rest.1 rest.0)

  same_numbers : (p q : PartLists) → AreParts net p → AreParts net q → p.part_of ≡ q.part_of
  same_numbers p q h g =
      ext_get_or 0 p.part_of q.part_of (h.strong.count ∙ sym g.strong.count)
      (λ t l. sym ((agree p q h g (length p.inner)).0 t l (h.below t 0 l)))

  no_fewer : (p q : PartLists) → AreParts net p → AreParts net q → p.part_of ≡ q.part_of → length q.inner ≤ length p.inner
  no_fewer p q h g e =
      ⊎_elim
      (λ (l : length p.inner < length q.inner).
      let w = g.some_member (length p.inner) l in
      let long : length p.part_of ≡ length q.part_of = ap length e in
      let is : part_at p w.0 ≡ length p.inner = ap (λ (ns : List ℕ). get_or ns w.0 0) e ∙ w.1.here in
      let r = w.1.in_range in
      let b = h.below w.0 0 (omega arith) in
      absurd (omega arith))
      (λ (l : length q.inner ≤ length p.inner). l)
      (cases_lt (length p.inner) (length q.inner))

  same_mark : (p q : PartLists) → AreParts net p → AreParts net q → p.part_of ≡ q.part_of → (k : ℕ) → k < length p.inner
      → k < length q.inner → get_or p.inner k false ≡ true → get_or q.inner k false ≡ true
  same_mark p q h g e k l m y =
      let w = (h.inner k l).0 y in
      (g.inner k m).1 (w.0, subst (λ (ns : List ℕ). IsPlaceOfPart net ns k w.0) e w.1)

  same_marks : (p q : PartLists) → AreParts net p → AreParts net q → p.part_of ≡ q.part_of → p.inner ≡ q.inner
  same_marks p q h g e =
      let long : length p.inner ≡ length q.inner = let a = no_fewer p q h g e in let b = no_fewer q p g h (sym e) in omega arith in
      ext_get_or false p.inner q.inner long
      (λ k l.
      let m : k < length q.inner = omega arith in
      ⊎_elim
      (λ (y : get_or p.inner k false ≡ true). y ∙ sym (same_mark p q h g e k l m y))
      (λ (n : get_or p.inner k false ≡ false).
      ⊎_elim
      (λ (y : get_or q.inner k false ≡ true). same_mark q p g h (sym e) k m l y ∙ sym y)
      (λ (z : get_or q.inner k false ≡ false). n ∙ sym z)
      (cases_Bool (get_or q.inner k false)))
      (cases_Bool (get_or p.inner k false)))

  pub one_parts : (p q : PartLists) → AreParts net p → AreParts net q → p ≡ q
  one_parts p q h g =
      let e = same_numbers p q h g in
      let f = same_marks p q h g e in
      ap (λ (ns : List ℕ). let r : PartLists = record { part_of = ns; inner = p.inner } in r) e
      ∙ ap (λ (bs : List Bool). let r : PartLists = record { part_of = q.part_of; inner = bs } in r) f
