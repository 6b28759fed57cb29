-- The loop of `free_holds`.
use Rattle.std.proofs.Common.{ℕ, pos, ◌+◌, ◌*◌, ◌<◌, ◌≤◌, ◌≡◌, ◌≢◌, List, length, get_or, set, refl, sym, ap, subst, ◌∙◌, arith, ⊎_elim}
use Rattle.std.proofs.lemmas.Bool.{cases_eq, cases_lt}
use Rattle.std.proofs.lemmas.List.{length-set, get_or-set_same, get_or-set_other}
use Rattle.dioid.specs.declared.dates.Date.{Date}
use Rattle.dioid.specs.declared.dates.Date.TheVariants.{Early, At}
use Rattle.dioid.specs.Dates.{IsAtMostDate, later_of}
use Rattle.dioid.proofs.DateOrder.{at_most_refl, at_most_trans, later_left, later_right, later_either}
use Rattle.teg_net.specs.declared.entries.Place.{Place}
use Rattle.teg_net.specs.Nets.{NetLists, IsNet, IsPlaceOf}
use Rattle.teg_net.specs.Circuits.{no_place}
use Rattle.teg_form.specs.Times.{cell, IsHoldBetween}
use Rattle.teg_form.proofs.Cells.{cell_in, one_cell}

-- the place of this number
abbrev place : NetLists → ℕ → Place
place net k = get_or net.places k no_place

pub record HoldsUpTo (net : NetLists) (holds : List Date) (i : ℕ) : Type 0 where
  pub count : length holds ≡ length net.transitions * length net.transitions
  pub sound : (a b : ℕ) → a < length net.transitions → b < length net.transitions → IsHoldBetween net a b (cell holds (length net.transitions) a b)
  pub complete : (k : ℕ) → k < i → (place net k).tokens ≡ 0 → IsAtMostDate (At (pos (place net k).hold)) (cell holds (length net.transitions) (place net k).from.index (place net k).to.index)

pub holds_same : (net : NetLists) (holds : List Date) (i : ℕ) → HoldsUpTo net holds i → (place net i).tokens ≢ 0 → HoldsUpTo net holds (i + 1)
holds_same net holds i h t = record {
  count = h.count;
  sound = h.sound;
  complete = λ k l z. ⊎_elim
      (λ (q : k < i). h.complete k q z)
      (λ (q : i ≤ k). let is : k ≡ i = omega arith in absurd (t (ap (λ m. (place net m).tokens) (sym is) ∙ z)))
      (cases_lt k i);
}

pub holds_more :
    (net : NetLists) (holds : List Date) (i : ℕ) → IsNet net → HoldsUpTo net holds i → i < length net.places → (place net i).tokens ≡ 0
    → HoldsUpTo net (set holds ((place net i).from.index * length net.transitions + (place net i).to.index)
    (later_of (cell holds (length net.transitions) (place net i).from.index (place net i).to.index) (At (pos (place net i).hold)))) (i + 1)
holds_more net holds i ok h l z =
    let n : ℕ = length net.transitions in
    let p : Place = place net i in
    let from : ℕ = p.from.index in
    let to : ℕ = p.to.index in
    let is : IsPlaceOf net p = ok.each_place i no_place l in
    let at : ℕ = from * n + to in
    let old : Date = cell holds n from to in
    let hold : Date = At (pos p.hold) in
    let new : Date = later_of old hold in
    let at_in : at < length holds = omega (arith, h.count, cell_in n from to is.from_in is.to_in) in
    let here : get_or (set holds at new) at Early ≡ new = get_or-set_same holds at new Early at_in in
    let free : IsHoldBetween net from to hold = (record { index = i }, record { in_range = l; begins = refl; ends = refl; no_tokens = z }, refl) in
    let new_sound : IsHoldBetween net from to new = ⊎_elim
    (λ e. subst (IsHoldBetween net from to) (sym e) (h.sound from to is.from_in is.to_in))
    (λ e. subst (IsHoldBetween net from to) (sym e) free)
    (later_either old hold) in
    record {
      count = length-set holds at new ∙ h.count;
      sound = λ a b ha hb. ⊎_elim
          (λ (q : a * n + b ≡ at).
          let same = one_cell n a b from to hb is.to_in q in
          let P : ℕ → ℕ → Type 0 = λ x y. IsHoldBetween net x y (get_or (set holds at new) (x * n + y) Early) in
          let base : P from to = subst (IsHoldBetween net from to) (sym here) new_sound in
          subst (λ x. P x b) (sym same.0) (subst (λ y. P from y) (sym same.1) base))
          (λ (q : a * n + b ≢ at). subst (IsHoldBetween net a b) (sym (get_or-set_other holds at (a * n + b) new Early q)) (h.sound a b ha hb))
          (cases_eq (a * n + b) at);
      complete = λ k m y.
          let c : ℕ = (place net k).from.index * n + (place net k).to.index in
          let kept : IsAtMostDate (get_or holds c Early) (get_or (set holds at new) c Early) = ⊎_elim
          (λ (q : c ≡ at). subst (λ v. IsAtMostDate (get_or holds v Early) (get_or (set holds at new) v Early)) (sym q) (subst (IsAtMostDate old) (sym here) (later_left old hold)))
          (λ (q : c ≢ at). subst (IsAtMostDate (get_or holds c Early)) (sym (get_or-set_other holds at c new Early q)) (at_most_refl (get_or holds c Early)))
          (cases_eq c at) in
          ⊎_elim
          (λ (q : k < i). at_most_trans (At (pos (place net k).hold)) (get_or holds c Early) (get_or (set holds at new) c Early) (h.complete k q y) kept)
          (λ (q : i ≤ k).
          let e : i ≡ k = omega arith in
          subst (λ v. IsAtMostDate (At (pos (place net v).hold))
          (cell (set holds at new) n (place net v).from.index (place net v).to.index)) e (subst (IsAtMostDate hold) (sym here) (later_right old hold)))
          (cases_lt k i);
    }
