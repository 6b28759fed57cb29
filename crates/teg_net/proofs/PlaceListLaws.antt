-- The places of each transition, as the first i places give them.
use Rattle.std.proofs.Common.{ℕ, ◌+◌, ◌<◌, ◌≤◌, ◌≡◌, ◌≢◌, List, [], ◌∷◌, ◌++◌, length, get_or, set, replicate, sym, ap, subst, ◌∙◌, arith, ⊎_elim}
use Rattle.std.specs.Prelude.{All, AllPairs, Contains}
use Rattle.std.proofs.lemmas.Bool.{cases_eq, cases_lt}
use Rattle.std.proofs.lemmas.List.{length-set, length-replicate, get_or-replicate, get_or-set_same, get_or-set_other, get_or_append_left, get_or_push, length_push}
use Rattle.std.proofs.lemmas.List.Elements.{All-push, All-weaker, Contains-push, Contains-append_left}
use Rattle.teg_net.specs.declared.entries.Place.{Place}
use Rattle.teg_net.specs.declared.entries.PlaceId.{PlaceId}
use Rattle.teg_net.specs.declared.places_of.PlaceEnd.{PlaceEnd}
use Rattle.teg_net.specs.declared.places_of.PlaceEnd.TheVariants.{From, To}
use Rattle.teg_net.specs.Nets.{NetLists, IsPlaceOf}
use Rattle.teg_net.specs.Circuits.{place_at}
use Rattle.teg_net.specs.PlaceLists.{place_end, ArePlacesOf}

module _ (net : NetLists) (which : PlaceEnd) where
  -- the number of the transition at which the place has this end
  abbrev pub end_number : PlaceId → ℕ
  end_number p = (place_end which (place_at net p)).index

  pub record ListsBelow (t : ℕ) (ids : List PlaceId) (i : ℕ) : Type 0 where
    pub known : All (λ p. p.index < i) ids
    pub right : All (λ p. end_number p ≡ t) ids
    pub all : (p : PlaceId) → p.index < i → end_number p ≡ t → Contains ids p
    pub rising : AllPairs (λ p q. p.index < q.index) ids

  -- the numbers stay rising when a greater one is added
  rising_push : (ids : List PlaceId) (i : ℕ) → All (λ p. p.index < i) ids → AllPairs (λ p q. p.index < q.index) ids → AllPairs (λ p q. p.index < q.index) (ids ++ (record { index = i }) ∷ [])
  rising_push ids i known h a b d l m =
      let id : PlaceId = record { index = i } in
      let long = length_push ids id in
      let left : get_or (ids ++ id ∷ []) a d ≡ get_or ids a d = get_or_append_left ids (id ∷ []) d a (omega arith) in
      ⊎_elim
      (λ (q : b < length ids). rw (left, get_or_append_left ids (id ∷ []) d b q) (h a b d l q))
      (λ (q : length ids ≤ b).
      let last : length ids ≡ b = omega arith in
      rw (left, get_or_push ids id d b last) (known a d (omega arith)))
      (cases_lt b (length ids))

  own_place_more : (t : ℕ) (ids : List PlaceId) (i : ℕ) → ListsBelow t ids i → end_number (record { index = i }) ≡ t → ListsBelow t (ids ++ (record { index = i }) ∷ []) (i + 1)
  own_place_more t ids i h e =
      let id : PlaceId = record { index = i } in
      record {
        known = All-push (λ p. p.index < i + 1) ids id (All-weaker (λ p. p.index < i) (λ p. p.index < i + 1) (λ p l. omega arith) ids h.known) (omega arith);
        right = All-push (λ p. end_number p ≡ t) ids id h.right e;
        all = λ other l q.
            ⊎_elim
            (λ (s : other.index < i). Contains-append_left ids (id ∷ []) other (h.all other s q))
            (λ (s : i ≤ other.index).
            let is : id ≡ other = (let one : i ≡ other.index = omega arith in ap (λ x. record { index = x }) one) in
            subst (λ x. Contains (ids ++ id ∷ []) x) is (Contains-push ids id))
            (cases_lt other.index i);
        rising = rising_push ids i h.known h.rising;
      }

  other_place_more : (t : ℕ) (ids : List PlaceId) (i : ℕ) → ListsBelow t ids i → end_number (record { index = i }) ≢ t → ListsBelow t ids (i + 1)
  other_place_more t ids i h e = record {
    known = All-weaker (λ p. p.index < i) (λ p. p.index < i + 1) (λ p l. omega arith) ids h.known;
    right = h.right;
    all = λ other l q.
        ⊎_elim
        (λ (s : other.index < i). h.all other s q)
        (λ (s : i ≤ other.index).
        let one : other.index ≡ i = omega arith in
        absurd (e (ap (λ x. end_number (record { index = x })) (sym one) ∙ q)))
        (cases_lt other.index i);
    rising = h.rising;
  }

  pub record ListedBelow (lists : List (List PlaceId)) (i : ℕ) : Type 0 where
    pub count : length lists ≡ length net.transitions
    pub each : (t : ℕ) → t < length net.transitions → ListsBelow t (get_or lists t []) i

  -- no place is listed yet
  pub none_listed : (lists : List (List PlaceId)) → lists ≡ replicate (length net.transitions) [] → ListedBelow lists 0
  none_listed lists is = record {
    count = ap length is ∙ length-replicate {A = List PlaceId} (length net.transitions) [];
    each = λ t l.
        let none : get_or lists t [] ≡ [] = ap (λ z. get_or z t []) is ∙ get_or-replicate (length net.transitions) t [] [] l in
        subst (λ ids. ListsBelow t ids 0) (sym none) (record {
          known = λ k d m. absurd (omega (arith, m));
          right = λ k d m. absurd (omega (arith, m));
          all = λ p m. absurd (omega (arith, m));
          rising = λ j k d l m. absurd (omega (arith, m));
        });
  }

  -- one more place is listed at its end
  pub listed_more :
      (lists : List (List PlaceId)) (i t : ℕ) → ListedBelow lists i → end_number (record { index = i }) ≡ t → t < length net.transitions
      → ListedBelow (set lists t (get_or lists t [] ++ (record { index = i }) ∷ [])) (i + 1)
  listed_more lists i t h e in' =
      let more : List PlaceId = get_or lists t [] ++ (record { index = i }) ∷ [] in
      record {
        count = length-set lists t more ∙ h.count;
        each = λ s l.
            ⊎_elim
            (λ (q : s ≡ t).
            let here : get_or (set lists t more) s [] ≡ more = rw q (get_or-set_same lists t more [] (rw h.count in')) in
            rw here (rw q (own_place_more t (get_or lists t []) i (h.each t in') e)))
            (λ (q : s ≢ t). rw (get_or-set_other lists t s more [] q) (other_place_more s (get_or lists s []) i (h.each s l) (λ x. q (sym x ∙ e))))
            (cases_eq s t);
      }

  -- all places are listed
  pub all_listed : (lists : List (List PlaceId)) (i : ℕ) → length net.places ≡ i → ListedBelow lists i → ArePlacesOf net which lists
  all_listed lists i done h = record {
    count = h.count;
    each = λ t l. record {
      known = rw done (h.each t l).known;
      right = (h.each t l).right;
      all = λ p m e. (h.each t l).all p (rw done at m) e;
      rising = (h.each t l).rising;
    };
  }

-- the end of a place of the net is one of its transitions
pub end_in_range : (net : NetLists) (which : PlaceEnd) (p : Place) → IsPlaceOf net p → (place_end which p).index < length net.transitions
end_in_range net From p h = h.from_in
end_in_range net To p h = h.to_in
