-- One more firing of a run, in its columns of dates.
use Rattle.std.proofs.Common.{ℕ, ◌<◌, ◌≡◌, ◌≢◌, List, [], ◌∷◌, ◌++◌, length, get_or, set, refl, sym, ◌∙◌, arith, ⊎_elim}
use Rattle.std.proofs.lemmas.Bool.{cases_eq}
use Rattle.std.proofs.lemmas.List.{length-set, get_or-set_same, get_or-set_other}
use Rattle.std.proofs.lemmas.List.Elements.{All-append}
use Rattle.run_laws.specs.declared.fired.Fired.{Fired}
use Rattle.run_laws.proofs.Dates.{dates_of_own, dates_of_other}
use Rattle.teg_replay.specs.Games.{AreDateColumns}

pub columns_more : (run : List Fired) (columns : List (List ℕ)) (f : Fired) → AreDateColumns run columns → f.transition.index < length columns
    → AreDateColumns (run ++ f ∷ []) (set columns f.transition.index (get_or columns f.transition.index [] ++ f.date ∷ []))
columns_more run columns f h in' =
    let own : ℕ = f.transition.index in
    let column : List ℕ = get_or columns own [] ++ f.date ∷ [] in
    let long : length (set columns own column) ≡ length columns = length-set columns own column in
    record {
      same = λ t l.
          ⊎_elim
          (λ (e : own ≡ t).
          let here = get_or-set_same columns own column [] in' in
          let was = h.same own in' in
          rw (dates_of_own run f t e, ← e, here, was) refl)
          (λ (e : own ≢ t).
          let e2 : t ≢ own = λ q. e (sym q) in
          get_or-set_other columns own t column [] e2 ∙ h.same t (rw long at l) ∙ sym (dates_of_other run f t e))
          (cases_eq own t);
      known = rw long (All-append (λ g. g.transition.index < length columns) run (f ∷ []) h.known (λ i d l. let z : i ≡ 0 = omega arith in rw z in'));
    }
