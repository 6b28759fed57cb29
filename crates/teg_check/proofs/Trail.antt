-- The walk of `circuit_from`: the trail so far, and at each transition the place in the trail at which it was left.
use Rattle.std.proofs.Common.{ℕ, ◌+◌, ◌<◌, ◌≤◌, ◌≡◌, ◌≢◌, List, Bool, [], ◌∷◌, ◌++◌, length, get_or, set, take, drop, Option, Some, None, refl, sym, ap, subst, ◌∙◌, arith, ⊎_elim}
use Rattle.std.specs.Prelude.{AllPairs}
use Rattle.std.proofs.lemmas.Bool.{cases_eq, cases_lt}
use Rattle.std.proofs.lemmas.List.{length-set, get_or-set_same, get_or-set_other, length_push, get_or_push, get_or_append_left, get_or_default, drop_more, take-append-drop, get_or-drop, length-drop}
use Rattle.std.proofs.lemmas.List.Sums.{sum_by_push, sum_by-take-drop}
use Rattle.std.proofs.lemmas.List.Quantifiers.{all_pairs_push}
use Rattle.teg_net.specs.declared.entries.PlaceId.{PlaceId}
use Rattle.teg_net.specs.Nets.{NetLists}
use Rattle.teg_net.specs.Circuits.{place_at, from_of, IsPathBetween, IsCircuit, tokens_of}
use Rattle.teg_net.proofs.PathLaws.{IsPathBetween-append, IsPathBetween-split}
use Rattle.teg_check.specs.Exits.{IsUnranked, IsExit}

abbrev pub first_id : PlaceId
first_id = record { index = 0 }

pub record Trail (net : NetLists) (ranked : List Bool) (start : ℕ) (left : List (Option ℕ)) (trail : List PlaceId) (at : ℕ) : Type 0 where
  pub count : length left ≡ length ranked
  pub goes_on : IsUnranked ranked at
  pub leads : IsPathBetween net start trail at
  pub no_tokens : tokens_of net trail ≡ 0
  pub marks : (t k : ℕ) → get_or left t None ≡ Some k → (k < length trail) × (from_of net (get_or trail k first_id) ≡ t)
  pub marked : (k : ℕ) → k < length trail → get_or left (from_of net (get_or trail k first_id)) None ≢ None
  pub distinct : AllPairs (λ p q. from_of net p ≢ from_of net q) trail

pub trail_more :
    (net : NetLists) (ranked : List Bool) (start : ℕ) (left : List (Option ℕ)) (trail : List PlaceId) (at : ℕ) (exit : PlaceId)
    → IsExit net ranked at exit → Trail net ranked start left trail at → at < length left → get_or left at None ≡ None
    → Trail net ranked start (set left at (Some (length trail))) (trail ++ exit ∷ []) (place_at net exit).to.index
trail_more net ranked start left trail at exit w h in' none =
    let mark : Option ℕ = Some (length trail) in
    let longer : List PlaceId = trail ++ exit ∷ [] in
    let same : get_or (set left at mark) at None ≡ mark = get_or-set_same left at mark None in' in
    let last : get_or longer (length trail) first_id ≡ exit = get_or_push trail exit first_id (length trail) refl in
    record {
      count = length-set left at mark ∙ h.count;
      goes_on = w.ends_unranked;
      leads = IsPathBetween-append net trail (exit ∷ []) start at (place_at net exit).to.index h.leads (w.in_range, w.begins, refl);
      no_tokens = omega (arith, sum_by_push (λ p. (place_at net p).tokens) trail exit, h.no_tokens, w.no_tokens);
      marks = λ t k e.
          ⊎_elim
          (λ (q : t ≡ at).
          let k_is : length trail ≡ k = cc in
          let there : get_or longer k first_id ≡ exit = subst (λ x. get_or longer x first_id ≡ exit) k_is last in
          (omega (arith, length_push trail exit), ap (from_of net) there ∙ (w.begins ∙ sym q)))
          (λ (q : t ≢ at).
          let old = h.marks t k (sym (get_or-set_other left at t mark None q) ∙ e) in
          (omega (arith, length_push trail exit, old.0), ap (from_of net) (get_or_append_left trail (exit ∷ []) first_id k old.0) ∙ old.1))
          (cases_eq t at);
      marked = λ k l.
          let some : get_or (set left at mark) at None ≢ None = λ e. cc in
          ⊎_elim
          (λ (q : k < length trail).
          let kept : get_or longer k first_id ≡ get_or trail k first_id = get_or_append_left trail (exit ∷ []) first_id k q in
          ⊎_elim
          (λ (s : from_of net (get_or trail k first_id) ≡ at). rw (kept, s) some)
          (λ (s : from_of net (get_or trail k first_id) ≢ at). rw kept (λ e. h.marked k q (sym (get_or-set_other left at _ mark None s) ∙ e)))
          (cases_eq (from_of net (get_or trail k first_id)) at))
          (λ (q : length trail ≤ k).
          let k_is : k ≡ length trail = omega (arith, length_push trail exit) in
          rw (k_is, last, w.begins) some)
          (cases_lt k (length trail));
      distinct = all_pairs_push (λ p q. from_of net p ≢ from_of net q) trail exit h.distinct (λ k d l e.
          let read : get_or trail k d ≡ get_or trail k first_id = get_or_default trail k d first_id l in
          h.marked k l (ap (λ x. get_or left x None) (ap (from_of net) (sym read) ∙ (e ∙ w.begins)) ∙ none));
    }

begins_as : (net : NetLists) (x : PlaceId) (xs ys : List PlaceId) (a b : ℕ) → xs ≡ x ∷ ys → IsPathBetween net a xs b → from_of net x ≡ a
begins_as net x xs ys a b e l = let opened : IsPathBetween net a (x ∷ ys) b = subst (λ z. IsPathBetween net a z b) e l in opened.1

pub circuit_of_trail :
    (net : NetLists) (ranked : List Bool) (start : ℕ) (left : List (Option ℕ)) (trail : List PlaceId) (at first : ℕ)
    → Trail net ranked start left trail at → get_or left at None ≡ Some first → IsCircuit net (drop first trail)
circuit_of_trail net ranked start left trail at first h is =
    let mark = h.marks at first is in
    let whole = take-append-drop first trail in
    let split = IsPathBetween-split net (take first trail) (drop first trail) start at (rw whole h.leads) in
    let opened : drop first trail ≡ get_or trail first first_id ∷ drop (first + 1) trail = drop_more trail first first_id mark.0 in
    let begins : from_of net (get_or trail first first_id) ≡ split.0 =
    begins_as net (get_or trail first first_id) (drop first trail) (drop (first + 1) trail) split.0 at opened split.2 in
    let closed : IsPathBetween net at (drop first trail) at = subst (λ x. IsPathBetween net x (drop first trail) at) (sym begins ∙ mark.1) split.2 in
    record {
      not_empty = omega (arith, length-drop first trail, mark.0);
      closed = (at, closed);
      leaves_once = λ i j d l m.
          rw (get_or-drop, get_or-drop) (h.distinct (first + i) (first + j) d (omega arith) (omega (arith, length-drop first trail)));
    }

pub no_tokens_of_trail : (net : NetLists) (trail : List PlaceId) (first : ℕ) → tokens_of net trail ≡ 0 → tokens_of net (drop first trail) ≡ 0
no_tokens_of_trail net trail first e = omega (arith, sum_by-take-drop (λ p. (place_at net p).tokens) trail first)
