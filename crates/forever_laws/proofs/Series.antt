-- Rows of settled forms of walk times, and lists of due rows, give series of these dates.
use Rattle.std.proofs.Common.{ℕ, ℤ, pos, ◌+◌, ◌-◌, ◌<◌, ◌≤◌, ◌≡◌, List, [], ◌∷◌, ◌++◌, length, get_or, refl, sym, ap, subst, ◌∙◌, arith, ⊎_elim}
use Rattle.std.proofs.lemmas.Int.{ints}
use Rattle.std.proofs.lemmas.List.{get_or-map, length-map}
use Rattle.walk_times.specs.dioid.declared.dates.Date.{Date}
use Rattle.walk_times.specs.dioid.declared.dates.Date.TheVariants.{Early, At}
use Rattle.walk_times.specs.dioid.Dates.{IsAtMostDate, move}
use Rattle.walk_times.specs.dioid.DateOrder.{Le}
use Rattle.walk_times.specs.series_laws.Periodic.{Rising, Repeats}
use Rattle.walk_times.specs.series_laws.SeriesForms.{form_with, value_at, HasValues, table}
use Rattle.walk_times.proofs.series_laws_proofs.FormValues.{form_values, table_length, table_at, same_lists}
use Rattle.walk_times.proofs.series_laws_proofs.Repeating.{rising_by_one}
use Rattle.teg_net.specs.declared.walks.Step.{Step}
use Rattle.teg_net.specs.declared.walks.Step.TheVariants.{Next}
use Rattle.teg_net.specs.Nets.{NetLists}
use Rattle.teg_net.specs.Walks.{Walks, walk_time}
use Rattle.walk_times.specs.teg_model.Datings.{as_date}
use Rattle.walk_times.proofs.teg_model_proofs.WalkSteps.{walk_append, walk_time-append}
use Rattle.walk_times.specs.settled_laws.SettledForms.{settled_length, row_of, step_of_form, StandsFor}
use Rattle.walk_times.specs.Transfers.{IsGreatestWalkTime, AreWalkTimes}
use Rattle.endless_due.specs.declared.row.EndlessRow.{EndlessRow}
use Rattle.forever_laws.specs.SeriesColumns.{due_date_at, listed_dates, IsSeriesList}
use Rattle.forever_laws.specs.EndlessDues.{TransfersAreSeries, DuesAreSeries}
use Rattle.forever_laws.proofs.GoingOn.{due_number, due_is, due_listed, due_again, due_climbs}

-- a list of the first values of a function that repeats from the last period on
list_values : (values : List Date) (n : ℕ) (x : ℤ) (s : ℕ → Date) → 0 < n → n ≤ length values → ((k : ℕ) → k < length values → get_or values k Early ≡ s k)
    → Repeats s (length values - n) n x → HasValues (form_with values n x) s
list_values values n x s some fits same again =
    let m : ℕ = length values - n in
    let long : length (table s (m + n)) ≡ m + n = table_length s (m + n) in
    let size : length values ≡ length (table s (m + n)) = omega arith in
    let is : values ≡ table s (m + n) = same_lists values (table s (m + n)) size (λ k l. same k l ∙ sym (table_at s (m + n) k (omega arith))) in
    subst (λ (l : List Date). HasValues (form_with l n x) s) (sym is) (form_values s m n x some again)

rising_same : (s t : ℕ → Date) → ((k : ℕ) → t k ≡ s k) → Rising s → Rising t
rising_same s t e h = record { rises = λ j k l. rw (e j, e k) (h.rises j k l) }

series_list : (values : List Date) (n : ℕ) (x : ℤ) (s : ℕ → Date) (IsValue : ℕ → Date → Type 0) → 0 < n → n ≤ length values → ((k : ℕ) → k < length values → get_or values k Early ≡ s k)
    → Repeats s (length values - n) n x → ((k : ℕ) → Le (s k) (s (k + 1))) → ((k : ℕ) → IsValue k (s k)) → IsSeriesList values n x IsValue
series_list values n x s IsValue some fits same again climbs each =
    let is : HasValues (form_with values n x) s = list_values values n x s some fits same again in
    record {
      some = some;
      fits = fits;
      rising = rising_same s (value_at (form_with values n x)) is (rising_by_one s climbs);
      each = λ k. subst (IsValue k) (sym (is k)) (each k);
    }

-- ---- walk times

-- a walk goes on to the next firing in no time
walks_climb : (net : NetLists) (input t k : ℕ) (d e : Date) → IsGreatestWalkTime net input t k d → IsGreatestWalkTime net input t (k + 1) e → IsAtMostDate d e
walks_climb net input t k d e h m =
    ⊎_elim
    (λ none. rw none.0 tt)
    (λ one.
    let steps : List Step = one.0 in
    let more : Walks net input 1 (steps ++ (Next ∷ [])) t (k + 1) = walk_append net steps (Next ∷ []) input 1 t k t (k + 1) one.1 (refl, refl) in
    let time : walk_time net (steps ++ (Next ∷ [])) ≡ walk_time net steps =
    (let e : walk_time net (steps ++ (Next ∷ [])) ≡ walk_time net steps + walk_time net (Next ∷ []) =
    walk_time-append net steps (Next ∷ []) in omega arith) in
    rw one.2 (subst (λ (n : ℕ). IsAtMostDate (At (pos n)) e) time (m.greatest (steps ++ (Next ∷ [])) more)))
    h.reached

pub transfers_are_series : TransfersAreSeries
transfers_are_series net input f h t l =
    let x : ℕ → ℕ → Date = h.0 in
    let times : AreWalkTimes net input x = h.1 in
    let stands : StandsFor (length net.transitions) f x = h.2.stands in
    let rows = stands.sizes.rows_are in
    let long : length (row_of f t) ≡ settled_length f = stands.sizes.full t [] (omega arith) in
    let start : length (row_of f t) - f.period ≡ f.after = omega arith in
    series_list (row_of f t) f.period (step_of_form f t) (λ k. x t (k + 1)) (λ k d. IsGreatestWalkTime net input t (k + 1) d)
    stands.sizes.at_least_one (omega arith)
    (λ k m. (let e : k + 1 - 1 ≡ k = omega arith in ap (λ (i : ℕ). get_or (row_of f t) i Early) (sym e) ∙ stands.dates t (k + 1) l (omega arith) (omega arith)))
    (record { at = λ k m. (let e : k + f.period + 1 ≡ k + 1 + f.period = omega arith in ap (x t) e ∙ stands.repeats.again t (k + 1) l (omega arith)) })
    (λ k. record { holds = walks_climb net input t (k + 1) (x t (k + 1)) (x t (k + 1 + 1)) (times t (k + 1) l (omega arith)) (times t (k + 1 + 1) l (omega arith)) })
    (λ k. times t (k + 1) l (omega arith))

-- ---- due dates

pub due_date_is : (r : EndlessRow) (k : ℕ) → due_date_at r k ≡ At (pos (due_number r (k + 1)))
due_date_is r k = ap as_date (due_is r (k + 1))

gap_later : (d g : ℕ) → At (pos (d + g)) ≡ move (pos g) (At (pos d))
gap_later d g = ap At (omega (arith, ints))

pub dues_are_series : DuesAreSeries
dues_are_series net r row =
    let long : length (listed_dates r) ≡ length r.dates = length-map r.dates (λ d. At (pos d)) in
    let some = row.goes_on.some in
    let enough = row.goes_on.enough in
    series_list (listed_dates r) r.every (pos r.gap) (due_date_at r) (λ k d. d ≡ due_date_at r k)
    (omega arith) (omega arith)
    (λ k m. (
    let low : k < length r.dates = omega arith in
    let e : k + 1 - 1 ≡ k = omega arith in
    let one : due_number r (k + 1) ≡ get_or r.dates k 0 = due_listed r (k + 1) (omega arith) ∙ ap (λ (i : ℕ). get_or r.dates i 0) e in
    get_or-map (λ d. At (pos d)) r.dates k 0 Early low ∙ (ap (λ (n : ℕ). At (pos n)) (sym one) ∙ sym (due_date_is r k))
    ))
    (record {
      at = λ k m. (
          let e : k + r.every + 1 ≡ k + 1 + r.every = omega arith in
          let on : due_number r (k + r.every + 1) ≡ due_number r (k + 1) + r.gap = ap (due_number r) e ∙ due_again net r row (k + 1) (omega arith) in
          due_date_is r (k + r.every) ∙ (ap (λ (n : ℕ). At (pos n)) on ∙ (gap_later (due_number r (k + 1)) r.gap ∙ ap (move (pos r.gap)) (sym (due_date_is r k))))
          );
    })
    (λ k. record { holds = due_climbs net r row (k + 1) (omega arith) })
    (λ k. refl)
