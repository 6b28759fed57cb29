-- Places of a part that leave no transition twice are at most as many as the part has members.
use Rattle.std.proofs.Common.{ℕ, zero, suc, ◌+◌, ◌<◌, ◌≤◌, ◌≡◌, List, [], ◌∷◌, ◌++◌, length, get_or, map, eqb, refl, sym, ap, subst, ◌∙◌, arith, ⊎_elim}
use Rattle.std.specs.Prelude.{All, Contains}
use Rattle.std.specs.Cmp.{IsEquivalence}
use Rattle.std.proofs.lemmas.Bool.{cases_lt, cases_eq, eq-eqb, eqb-true, ne_eqb}
use Rattle.std.proofs.lemmas.Bool.Decides.{nat_tests, Decides-eqb}
use Rattle.std.proofs.lemmas.List.{get_or_default, get_or-map, length-map}
use Rattle.std.proofs.lemmas.List.Elements.{All-nil, All-cons, All-tail, All-append}
use Rattle.std.proofs.lemmas.List.Folds.{Any-from_list_any, list_any_at}
use Rattle.std.proofs.lemmas.Map.Made.{IsDistinct-from_AllPairs, length-le_from_is_member}
use Rattle.teg_net.specs.declared.entries.PlaceId.{PlaceId}
use Rattle.teg_net.specs.Nets.{NetLists}
use Rattle.teg_net.specs.Circuits.{from_of, IsPathBetween, IsCircuit}
use Rattle.teg_net.specs.Parts.{IsMember, IsPlaceOfPart, ListsMembers}
use Rattle.teg_net.proofs.PathLaws.{no_id}
use Rattle.teg_loops.specs.Loops.{HasLoop}
use Rattle.teg_loops.proofs.Stops.{met, met_length, met_at, last_met}
use Rattle.teg_loops.proofs.Straight.{AreApart, loop_or_apart}
use Rattle.teg_loops.proofs.Taking.{rest_leads, rest_shorter}

equal_numbers : IsEquivalence eqb
equal_numbers = record {
  refl = λ x. eq-eqb x x refl;
  symm = λ x y. ⊎_elim (λ (e : x ≡ y). eq-eqb x y e ∙ sym (eq-eqb y x (sym e))) (λ (ne : x ≡ y → ⊥). ne_eqb x y ne ∙ sym (ne_eqb y x (λ e. ne (sym e)))) (cases_eq x y);
  congr = λ x y z e. ap (λ w. eqb w z) (eqb-true x y e);
}

-- numbers of which no two are equal, each of them one of the list, are at most as many as it has
apart_among : (ts xs : List ℕ) → AreApart xs → ((i : ℕ) → i < length xs → Contains ts (get_or xs i 0)) → length xs ≤ length ts
apart_among ts xs apart each = length-le_from_is_member equal_numbers xs ts (IsDistinct-from_AllPairs Decides-eqb xs apart)
    (λ q t.
    let any = Any-from_list_any (eqb q) xs t in
    let is : q ≡ any.1 = grind (arith, nat_tests, any.4) in
    let there : any.1 ≡ get_or xs any.0 0 = sym any.3 ∙ get_or_default xs any.0 any.1 0 any.2 in
    let has = each any.0 any.2 in
    let found : get_or ts has.0 0 ≡ get_or xs any.0 0 = get_or_default ts has.0 0 (get_or xs any.0 0) has.1 ∙ has.2 in
    list_any_at (eqb q) ts has.0 0 has.1 (eq-eqb q (get_or ts has.0 0) (is ∙ there ∙ sym found)))

module _ (net : NetLists) (parts : List ℕ) (part : ℕ) (ts : List ℕ) (lists : ListsMembers parts part ts) where
  -- a circuit in the part
  pub circuit_in_part : (ps : List PlaceId) → IsCircuit net ps → All (IsPlaceOfPart net parts part) ps → length ps ≤ length ts
  circuit_in_part ps c inside =
      let long = length-map ps (from_of net) in
      let few = apart_among ts (map (from_of net) ps) (λ i j d m n e. c.leaves_once i j no_id m (omega (arith, n, long)) (read i d (omega (arith, m, n, long)) ∙ (e ∙ sym (read j d (omega (arith, n, long)))))) (λ i l. has i (omega (arith, l, long))) in
      omega (arith, few, long) where
        read : (i d : ℕ) → i < length ps → from_of net (get_or ps i no_id) ≡ get_or (map (from_of net) ps) i d
        read i d l = sym (get_or-map (from_of net) ps i no_id d l)

        has : (i : ℕ) → i < length ps → Contains ts (get_or (map (from_of net) ps) i 0)
        has i l = subst (Contains ts) (read i 0 l) (lists.all (from_of net (get_or ps i no_id)) (inside i no_id l).from_member)

  -- a path in the part, without its loops
  module _ (P : PlaceId → Type 0) (in_part : (p : PlaceId) → P p → IsPlaceOfPart net parts part p) where
    abbrev pub IsShort : ℕ → ℕ → Type 0
    IsShort a b = (zs : List PlaceId) × IsPathBetween net a zs b × All P zs × (length zs < length ts)

    all_left : (xs ys : List PlaceId) → All P (xs ++ ys) → All P xs
    all_left [] ys h = All-nil P
    all_left (x ∷ xs) ys h = All-cons P x xs (h 0 x (omega arith)) (all_left xs ys (All-tail P x (xs ++ ys) h))

    all_right : (xs ys : List PlaceId) → All P (xs ++ ys) → All P ys
    all_right [] ys h = h
    all_right (x ∷ xs) ys h = all_right xs ys (All-tail P x (xs ++ ys) h)

    -- a path that comes to no transition twice is short
    short : (ps : List PlaceId) (a b : ℕ) → IsMember parts part b → All P ps → AreApart (met net b ps) → length ps < length ts
    short ps a b m all apart =
        let wide = met_length net b ps in
        let few = apart_among ts (met net b ps) apart (λ i l. has i (omega (arith, l, wide))) in
        omega (arith, few, wide) where
          has : (i : ℕ) → i < length ps + 1 → Contains ts (get_or (met net b ps) i 0)
          has i l = ⊎_elim
              (λ (low : i < length ps).
              subst (Contains ts) (sym (met_at net b ps i no_id low)) (lists.all (from_of net (get_or ps i no_id)) (in_part (get_or ps i no_id) (all i no_id low)).from_member))
              (λ (high : length ps ≤ i).
              let e : i ≡ length ps = omega (arith, l, high) in
              subst (Contains ts) (sym (ap (λ z. get_or (met net b ps) z 0) e ∙ last_met net ps b)) (lists.all b m))
              (cases_lt i (length ps))

    shorten_on : (fuel : ℕ) (ps : List PlaceId) (a b : ℕ) → length ps < fuel → IsMember parts part b → IsPathBetween net a ps b → All P ps → IsShort a b
    shorten_on zero ps a b l m h all = absurd (omega (arith, l))
    shorten_on (suc fuel) ps a b l m h all = ⊎_elim
        (λ (loop : HasLoop net a b ps).
        let less = rest_shorter net a b ps loop in
        let some : 0 < length loop.loop = loop.circuit.not_empty in
        let whole : All P (loop.before ++ (loop.loop ++ loop.after)) = subst (λ z. All P z) loop.is all in
        shorten_on fuel (loop.before ++ loop.after) a b (omega (arith, l, less, some)) m (rest_leads net a b ps loop)
        (All-append P loop.before loop.after (all_left loop.before (loop.loop ++ loop.after) whole)
        (all_right loop.loop loop.after (all_right loop.before (loop.loop ++ loop.after) whole))))
        (λ (apart : AreApart (met net b ps)). (ps, h, all, short ps a b m all apart))
        (loop_or_apart net ps a b h)

    pub shorten_in : (ps : List PlaceId) (a b : ℕ) → IsMember parts part b → IsPathBetween net a ps b → All P ps → IsShort a b
    shorten_in ps a b m h all = shorten_on (suc (length ps)) ps a b (omega arith) m h all
