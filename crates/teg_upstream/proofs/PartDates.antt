-- The dates of a transition are the same in the part of a net upstream of it.
use Rattle.std.proofs.Common.{ℕ, ◌-◌, ◌<◌, ◌≤◌, ◌≡◌, Bool, true, false, eqb, cond, List, Option, Some, None, [], ◌∷◌, find, filter, get_or, length, refl, sym, ap, subst, ◌∙◌, arith, ⊎_elim}
use Rattle.std.specs.Prelude.{pos, All, ◌==◌}
use Rattle.std.proofs.lemmas.Bool.{cases_lt, cases_Bool, false≢true}
use Rattle.std.proofs.lemmas.Bool.Decides.{nat_tests}
use Rattle.std.proofs.lemmas.List.Elements.{All-cons, All-filter, All-from_get_or, All-head, All-nil, All-tail}
use Rattle.std.proofs.lemmas.Option.{slice_get_past}
use Rattle.dioid.specs.declared.dates.Date.{Date}
use Rattle.dioid.specs.declared.dates.Date.TheVariants.{At}
use Rattle.dioid.specs.Dates.{IsAtMostDate}
use Rattle.dioid.proofs.DateOrder.{at_most_refl, at_most_trans, same_by_at_most}
use Rattle.teg_net.specs.declared.entries.InputList.{InputList}
use Rattle.teg_net.specs.declared.entries.Place.{Place}
use Rattle.teg_net.specs.Circuits.{no_place}
use Rattle.teg_net.specs.Inputs.{date_by_list, list_of_input}
use Rattle.teg_net.specs.Nets.{NetLists, IsNet, IsInput}
use Rattle.teg_model.specs.Datings.{IsFeasibleUnder, IsLeastDating, IsLeastUnder, as_date, available_at, implicit_place, initial_date, listed_releases}
use Rattle.teg_model.proofs.DateFunctions.{Dating}
use Rattle.teg_model.proofs.LeastOver.{available_rises}
use Rattle.teg_model.proofs.OfNet.{all_extended_in}
use Rattle.teg_model.proofs.Tokens.{available_same, implicit_keeps, not_before_zero, place_keeps}
use Rattle.teg_upstream.specs.Parts.{IsClosedBack, ends_marked, feeds_marked, is_marked, marked_part}

-- the first element that passes one test is there too among those that pass another, where it passes both
find_kept : {X : Type 0} (q f : X → Bool) → ((x : X) → q x ≡ true → f x ≡ true) → (xs : List X) → find q (filter f xs) ≡ find q xs
find_kept q f both [] = refl
find_kept q f both (x ∷ xs) =
    let rest = find_kept q f both xs in
    ⊎_elim
    (λ (e : f x ≡ true). ap (λ b. find q (cond b (x ∷ filter f xs) (filter f xs))) e ∙ ap (cond (q x) (Some x)) rest)
    (λ (e : f x ≡ false).
    ap (λ b. find q (cond b (x ∷ filter f xs) (filter f xs))) e
    ∙ (rest ∙ ⊎_elim
    (λ (y : q x ≡ true). absurd (false≢true (sym e ∙ both x y)))
    (λ (n : q x ≡ false). sym (ap (λ b. cond b (Some x) (find q xs)) n))
    (cases_Bool (q x))))
    (cases_Bool (f x))

-- and not where it fails the other
find_left : {X : Type 0} (q f : X → Bool) → ((x : X) → q x ≡ true → f x ≡ false) → (xs : List X) → find q (filter f xs) ≡ None
find_left q f apart [] = refl
find_left q f apart (x ∷ xs) =
    let rest = find_left q f apart xs in
    ⊎_elim
    (λ (e : f x ≡ true).
    ap (λ b. find q (cond b (x ∷ filter f xs) (filter f xs))) e
    ∙ ⊎_elim
    (λ (y : q x ≡ true). absurd (false≢true (sym (apart x y) ∙ e)))
    (λ (n : q x ≡ false). ap (λ b. cond b (Some x) (find q (filter f xs))) n ∙ rest)
    (cases_Bool (q x)))
    (λ (e : f x ≡ false). ap (λ b. find q (cond b (x ∷ filter f xs) (filter f xs))) e ∙ rest)
    (cases_Bool (f x))

-- what each element that a filter keeps has, each has that passes it
all_passed : {X : Type 0} (p : X → Bool) (Q : X → Type 0) (xs : List X) → All Q (filter p xs) → All (λ x. p x ≡ true → Q x) xs
all_passed p Q [] h = All-nil (λ x. p x ≡ true → Q x)
all_passed p Q (x ∷ xs) h =
    ⊎_elim
    (λ (e : p x ≡ true).
    let kept : All Q (x ∷ filter p xs) = subst (λ b. All Q (cond b (x ∷ filter p xs) (filter p xs))) e h in
    All-cons (λ y. p y ≡ true → Q y) x xs (λ _. All-head Q x (filter p xs) kept) (all_passed p Q xs (All-tail Q x (filter p xs) kept)))
    (λ (e : p x ≡ false).
    let kept : All Q (filter p xs) = subst (λ b. All Q (cond b (x ∷ filter p xs) (filter p xs))) e h in
    All-cons (λ y. p y ≡ true → Q y) x xs (λ t. absurd (false≢true (sym e ∙ t))) (all_passed p Q xs kept))
    (cases_Bool (p x))

-- an input is a transition of the net
input_within : (net : NetLists) (t : ℕ) → IsInput net t → t < length net.transitions
input_within net t i =
    ⊎_elim
    (λ (l : t < length net.transitions). l)
    (λ (l : length net.transitions ≤ t). absurd (rw (slice_get_past net.transitions t l) at i))
    (cases_lt t (length net.transitions))

module _ (net : NetLists) (ok : IsNet net) (t : ℕ) (marks : List Bool) (closed : IsClosedBack net t marks) where
  abbrev on : ℕ → Bool
  on u = is_marked marks u

  abbrev part : NetLists
  part = marked_part marks net

  abbrev n : ℕ
  n = length net.transitions

  abbrev keeps : Dating → ℕ → Place → Type 0
  keeps x k p = IsAtMostDate (available_at x p k) (x p.to.index k)

  -- a marked input keeps its list, and no other has one
  list_kept : (u : ℕ) → on u ≡ true → list_of_input (marked_part marks net) u ≡ list_of_input net u
  list_kept u e =
      find_kept (λ (l : InputList). l.transition.index == u) (feeds_marked marks)
      (λ l same. let is : l.transition.index ≡ u = grind (arith, nat_tests) in ap (is_marked marks) is ∙ e) net.inputs

  list_left : (u : ℕ) → on u ≡ false → list_of_input (marked_part marks net) u ≡ None
  list_left u e =
      find_left (λ (l : InputList). l.transition.index == u) (feeds_marked marks)
      (λ l same. let is : l.transition.index ≡ u = grind (arith, nat_tests) in ap (is_marked marks) is ∙ e) net.inputs

  released_same : (u k : ℕ) → on u ≡ true → listed_releases (marked_part marks net) u k ≡ listed_releases net u k
  released_same u k e = ap (λ o. as_date (date_by_list o k)) (list_kept u e)

  released_first : (u k : ℕ) → on u ≡ false → listed_releases (marked_part marks net) u k ≡ At (pos 0)
  released_first u k e = ap (λ o. as_date (date_by_list o k)) (list_left u e)

  module _ (x y : Dating) (hx : IsLeastDating net x) (hy : IsLeastDating (marked_part marks net) y) where
    -- the dates of the net are feasible in the part
    narrow : IsFeasibleUnder (marked_part marks net) (listed_releases (marked_part marks net)) x
    narrow = record {
      places = λ k o. all_extended_in (marked_part marks net) (keeps x k)
          (All-filter (ends_marked marks) (keeps x k) net.places (All-from_get_or (keeps x k) net.places no_place (λ q l. place_keeps net (listed_releases net) x hx.feasible k o q l)))
          (λ u l. implicit_keeps net (listed_releases net) x hx.feasible u k l o);
      inputs = λ u k o is.
          ⊎_elim
          (λ (e : on u ≡ true). rw (released_same u k e) (hx.feasible.inputs u k o is))
          (λ (e : on u ≡ false). rw (released_first u k e) (not_before_zero net (listed_releases net) x hx.feasible u k (input_within net u is) o))
          (cases_Bool (on u));
    }

    below : (u k : ℕ) → u < length net.transitions → 1 ≤ k → IsAtMostDate (y u k) (x u k)
    below u k l o = hy.least x narrow u k l o

    -- those of the part at the marked transitions, and the net's elsewhere
    abbrev both : Dating
    both u k = cond (is_marked marks u) (y u k) (x u k)

    both_on : (u k : ℕ) → on u ≡ true → both u k ≡ y u k
    both_on u k e = ap (λ b. cond b (y u k) (x u k)) e

    both_off : (u k : ℕ) → on u ≡ false → both u k ≡ x u k
    both_off u k e = ap (λ b. cond b (y u k) (x u k)) e

    both_below : (u k : ℕ) → u < length net.transitions → 1 ≤ k → IsAtMostDate (both u k) (x u k)
    both_below u k l o =
        ⊎_elim
        (λ (e : on u ≡ true). subst (λ d. IsAtMostDate d (x u k)) (sym (both_on u k e)) (below u k l o))
        (λ (e : on u ≡ false). subst (λ d. IsAtMostDate d (x u k)) (sym (both_off u k e)) (at_most_refl (x u k)))
        (cases_Bool (on u))

    -- a place that leads to a marked transition begins at one, and gives it the date of the part
    both_place : (p : Place) (k : ℕ) → p.from.index < length net.transitions → (on p.to.index ≡ true → on p.from.index ≡ true)
        → (on p.to.index ≡ true → keeps y k p) → keeps x k p → keeps both k p
    both_place p k in' comes own other =
        ⊎_elim
        (λ (e : on p.to.index ≡ true).
        let same : available_at both p k ≡ available_at y p k = available_same initial_date both y p k (λ _. both_on p.from.index (k - p.tokens) (comes e)) in
        subst (λ d. IsAtMostDate d (both p.to.index k)) (sym same) (subst (IsAtMostDate (available_at y p k)) (sym (both_on p.to.index k e)) (own e)))
        (λ (e : on p.to.index ≡ false).
        subst (IsAtMostDate (available_at both p k)) (sym (both_off p.to.index k e))
        (at_most_trans (available_at both p k) (available_at x p k) (x p.to.index k)
        (available_rises initial_date both x p k (λ j one. both_below p.from.index j in' one)) other))
        (cases_Bool (on p.to.index))

    -- what the places that lead to marked transitions keep in the part
    kept_there : (k : ℕ) → 1 ≤ k → All (λ p. on p.to.index ≡ true → keeps y k p) net.places
    kept_there k o =
        all_passed (ends_marked marks) (keeps y k) net.places
        (All-from_get_or (keeps y k) part.places no_place (λ q l. place_keeps part (listed_releases part) y hy.feasible k o q l))

    both_feasible : IsFeasibleUnder net (listed_releases net) both
    both_feasible = record {
      places = λ k o. all_extended_in net (keeps both k)
          (λ i d l. both_place (get_or net.places i d) k (ok.each_place i d l).from_in (closed.comes i d l) (kept_there k o i d l)
          (All-from_get_or (keeps x k) net.places no_place (λ q m. place_keeps net (listed_releases net) x hx.feasible k o q m) i d l))
          (λ u l. both_place (implicit_place u) k l (λ e. e) (λ _. implicit_keeps part (listed_releases part) y hy.feasible u k l o) (implicit_keeps net (listed_releases net) x hx.feasible u k l o));
      inputs = λ u k o is.
          ⊎_elim
          (λ (e : on u ≡ true). rw (both_on u k e) (rw (released_same u k e) at (hy.feasible.inputs u k o is)))
          (λ (e : on u ≡ false). rw (both_off u k e) (hx.feasible.inputs u k o is))
          (cases_Bool (on u));
    }

    pub part_tells : t < length net.transitions → (k : ℕ) → 1 ≤ k → y t k ≡ x t k
    part_tells l k o =
        same_by_at_most (y t k) (x t k) (below t k l o)
        (subst (IsAtMostDate (x t k)) (both_on t k closed.ends) (hx.least both both_feasible t k l o))
