-- Rows that are left keep the rules of due rows.
use Rattle.std.proofs.Common.{◌-◌, ◌<◌, ◌≡◌, ◌≢◌, List, [], ◌∷◌, length, Bool, true, false, cond, All, map, sym, ap, subst, inl, inr, arith, ⊎_elim, get_or, refl, Some, None}
use Rattle.std.specs.Prelude.{AllPairs, filter}
use Rattle.std.specs.List.{filter_map, cons_option}
use Rattle.std.proofs.lemmas.Bool.{cases_Bool, cases_eq, ltb-true}
use Rattle.std.proofs.lemmas.List.{get_or-map, length-map}
use Rattle.std.proofs.lemmas.List.Elements.{All-map, All-filter, filter_passes}
use Rattle.std.proofs.lemmas.List.Kept.{AllPairs-filter}
use Rattle.teg_net.specs.Nets.{NetLists, IsInput}
use Rattle.teg_due.specs.declared.rows.DueRow.{DueRow}
use Rattle.teg_due.specs.RowRules.{IsDueRow, IsDueOf, AreApart}
use Rattle.run_laws.specs.declared.fired.Fired.{Fired}
use Rattle.state_laws.specs.NetsLeft.{count_in}
use Rattle.teg_state.specs.LeftRows.{is_left, from_now_on, row_left, rows_left}

-- the row of a firing to come is one of any net with these transitions
due_row_left : (net rest : NetLists) (run : List Fired) (r : DueRow) → rest.transitions ≡ net.transitions → IsDueRow net r → is_left run r ≡ true
    → IsDueRow rest (from_now_on run r)
due_row_left net rest run r e h left =
    let less : count_in run r.transition.index < r.number = ltb-true (count_in run r.transition.index) r.number left in
    record {
      in_range = rw e h.in_range;
      no_input = λ (i : IsInput rest r.transition.index). h.no_input (rw (sym e) i);
      from_one = omega (arith, less);
      number_in = omega (arith, h.number_in);
      date_in = h.date_in;
    }

-- rows of different firings to come stay so
apart_left : (run : List Fired) (r s : DueRow) → is_left run r ≡ true → is_left run s ≡ true → AreApart r s → AreApart (from_now_on run r) (from_now_on run s)
apart_left run r s left_r left_s h =
    let less_r : count_in run r.transition.index < r.number = ltb-true (count_in run r.transition.index) r.number left_r in
    let less_s : count_in run s.transition.index < s.number = ltb-true (count_in run s.transition.index) s.number left_s in
    ⊎_elim
    (λ (n : r.transition.index ≢ s.transition.index). inl n)
    (λ (n : r.number ≢ s.number).
    ⊎_elim
    (λ (e : r.transition.index ≡ s.transition.index).
    let same : count_in run r.transition.index ≡ count_in run s.transition.index = ap (λ t. count_in run t) e in
    inr (λ (q : r.number - count_in run r.transition.index ≡ s.number - count_in run s.transition.index). n (omega (arith, q, same, less_r, less_s))))
    (λ (n' : r.transition.index ≡ s.transition.index → ⊥). inl n')
    (cases_eq r.transition.index s.transition.index))
    h

-- what holds of each two of the rows holds of what they become
pairs_map : (f : DueRow → DueRow) (R : DueRow → DueRow → Type 0) (rows : List DueRow) → AllPairs (λ r s. R (f r) (f s)) rows → AllPairs R (map f rows)
pairs_map f R rows h = λ i j d below in_list.
    let j_in : j < length rows = rw (sym (length-map rows f)) in_list in
    let i_in : i < length rows = omega (arith, below, j_in) in
    rw (get_or-map f rows i d d i_in) (rw (get_or-map f rows j d d j_in) (h i j d below j_in))

-- the rows that are left keep the rules in any net with these transitions
rules_left : (net rest : NetLists) (run : List Fired) (rows : List DueRow) → rest.transitions ≡ net.transitions → IsDueOf net rows → IsDueOf rest (rows_left run rows)
rules_left net rest run rows e h =
    let kept : List DueRow = filter (is_left run) rows in
    let each : All (IsDueRow net) kept = All-filter (is_left run) (IsDueRow net) rows h.each in
    let once : AllPairs AreApart kept = AllPairs-filter AreApart (is_left run) rows h.once in
    let pass : All (λ r. is_left run r ≡ true) kept = filter_passes (is_left run) rows in
    record {
      each = All-map (IsDueRow rest) (from_now_on run) kept (λ k d l. due_row_left net rest run (get_or kept k d) e (each k d l) (pass k d l));
      once =
          pairs_map (from_now_on run) AreApart kept
          (λ i j d below in_list. apart_left run (get_or kept i d) (get_or kept j d) (pass i d (omega (arith, below, in_list))) (pass j d in_list) (once i j d below in_list));
    }

-- each row that is left with its number, in one pass
in_one_pass : (run : List Fired) (rows : List DueRow) → filter_map (row_left run) rows ≡ rows_left run rows
in_one_pass run [] = refl
in_one_pass run (r ∷ rows) =
    let kept : List DueRow = filter (is_left run) rows in
    let others : List DueRow = filter_map (row_left run) rows in
    let Q : Bool → Type 0 = λ b. cons_option (cond b (Some (from_now_on run r)) None) others ≡ map (from_now_on run) (cond b (r ∷ kept) kept) in
    ⊎_elim
    (λ (e : is_left run r ≡ true). subst Q (sym e) (ap (λ xs. from_now_on run r ∷ xs) (in_one_pass run rows)))
    (λ (e : is_left run r ≡ false). subst Q (sym e) (in_one_pass run rows))
    (cases_Bool (is_left run r))

-- a list that was made so has the rows that are left
pub rows_are_left : (run : List Fired) (rows xs : List DueRow) → xs ≡ filter_map (row_left run) rows → xs ≡ rows_left run rows
rows_are_left run rows xs e = rw e (in_one_pass run rows)

-- and keeps the rules
pub rules_are_kept : (net rest : NetLists) (run : List Fired) (rows xs : List DueRow) → xs ≡ filter_map (row_left run) rows → rest.transitions ≡ net.transitions → IsDueOf net rows → IsDueOf rest xs
rules_are_kept net rest run rows xs e same h = rw (rows_are_left run rows xs e) (rules_left net rest run rows same h)
