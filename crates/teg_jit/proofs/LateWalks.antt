-- The walk of a late row: by the plan for this one row at its least date, from a firing whose latest date is its start.
use Rattle.std.proofs.Common.{ℕ, zero, suc, ◌+◌, ◌<◌, ◌≤◌, ◌≡◌, List, [], ◌∷◌, length, get_or, refl, sym, ap, ◌∙◌, arith, ⊎_elim}
use Rattle.std.specs.Prelude.{pos, Some, None, Option, IfNone, IfOk, Result, Ok, Err}
use Rattle.std.specs.Option.{IsSome}
use Rattle.std.proofs.lemmas.Int.{ints}
use Rattle.date_rows.specs.dioid.declared.dates.Date.{Date}
use Rattle.date_rows.specs.dioid.declared.dates.Date.TheVariants.{Early, At as on_date}
use Rattle.date_rows.specs.dioid.Dates.{IsAtMostDate, delayed}
use Rattle.date_rows.proofs.dioid_proofs.DateOrder.{at_most_is, at_most_trans, same_by_at_most, later_is_left}
use Rattle.teg_net.specs.declared.walks.Step.{Step}
use Rattle.teg_net.specs.declared.walks.Walk.{Walk}
use Rattle.teg_net.specs.Nets.{NetLists, IsNet, IsInput}
use Rattle.teg_net.specs.ReadyDates.{start_date}
use Rattle.teg_net.specs.Walks.{Walks, walk_time}
use Rattle.date_rows.specs.teg_model.LiveRanks.{AreRanks, HasEndsInRange}
use Rattle.date_rows.specs.teg_model.Datings.{IsLeastUnder, at_input}
use Rattle.date_rows.specs.teg_model.Starts.{start_of_firing}
use Rattle.date_rows.proofs.teg_model_proofs.GreatestWalks.{least_is_walk, not_before_ready}
use Rattle.date_rows.proofs.teg_model_proofs.OfNet.{input_or_not, net_ends}
use Rattle.due_laws.specs.MeetingDueDates.{KeepsDues, InputsMeet, inputs_at_zero}
use Rattle.due_laws.specs.LatestDates.{IsDateToDue, IsTightWalk, IsLateWalk}
use Rattle.due_laws.proofs.LatestDates.{kept_below}
use Rattle.teg_due.specs.declared.rows.DueRow.{DueRow}
use Rattle.teg_due.specs.RowRules.{due_in}
use Rattle.teg_jit.specs.DueDates.{NamesFiring}
use Rattle.teg_jit.specs.Plans.{dates_of_plan, PlanDates, KeepsSizes, IsPlanFor}
use Rattle.teg_jit.specs.FirstLate.{HasDateAtStart, StartsAreKept}
use Rattle.teg_due.proofs.DueOnce.{no_row}
use Rattle.teg_due.proofs.DueRows.{row_of_due, due_of_row}
use Rattle.date_rows.proofs.teg_model_proofs.LiveRanks.{rank_bound, rank_in, ranks_in}
use Rattle.teg_jit.proofs.Walking.{in_numbers}

-- ---- one row

pub one_due : (r : DueRow) → due_in (r ∷ []) r.transition.index r.number ≡ Some r.date
one_due r = due_of_row (r ∷ []) 0 r (λ i j d l m. absurd (omega arith)) (omega arith) refl

first_of_one : (r : DueRow) (i : ℕ) → i < length (r ∷ []) → get_or (r ∷ []) i no_row ≡ r
first_of_one r zero l = refl
first_of_one r (suc i) l = absurd (omega arith)

pub due_one : (r : DueRow) (t k d : ℕ) → due_in (r ∷ []) t k ≡ Some d → (r.transition.index ≡ t) × (r.number ≡ k) × (r.date ≡ d)
due_one r t k d h =
    let i = row_of_due (r ∷ []) t k d h in
    rw (first_of_one r i.0 i.1) at (i.2 no_row)

pub one_meets : (net : NetLists) (r : DueRow) (x : ℕ → ℕ → Date) → IsLeastUnder net inputs_at_zero x
    → x r.transition.index r.number ≡ on_date (pos r.date) → InputsMeet net (due_in (r ∷ [])) inputs_at_zero
one_meets net r x h is = (
  x,
  h,
  λ t k d l o due.
      let e = due_one r t k d due in
      rw (e.0, e.1, e.2) at (at_most_is (x r.transition.index r.number) (on_date (pos r.date)) is),
)

-- ---- least dates with all inputs at 0

starts_are : (net : NetLists) (a s : ℕ) → start_of_firing net inputs_at_zero a s ≡ on_date (pos (start_date net a s))
starts_are net a s =
    let first : Date = on_date (pos (start_date net a s)) in
    ⊎_elim
    (λ (e : IsInput net a × (at_input net a (on_date (pos 0)) Early ≡ on_date (pos 0))). rw e.1 (later_is_left first (on_date (pos 0)) (omega (arith, ints))))
    (λ (e : (at_input net a (on_date (pos 0)) Early ≡ Early) × (at_input net a (on_date (pos 0)) Early ≡ Early)). rw e.0 refl)
    (input_or_not net a (on_date (pos 0)) Early Early)

-- a walk whose start plus time is the least date
pub record Reached (net : NetLists) (x : ℕ → ℕ → Date) (t k : ℕ) : Type 0 where
  pub from : ℕ
  pub number : ℕ
  pub steps : List Step
  pub from_in : from < length net.transitions
  pub from_one : 1 ≤ number
  pub walk : Walks net from number steps t k
  pub is : x t k ≡ on_date (pos (start_date net from number + walk_time net steps))

pub reached : (net : NetLists) (x : ℕ → ℕ → Date) (bound : ℕ) (rank : ℕ → ℕ) → HasEndsInRange net → AreRanks net.places bound rank
    → IsLeastUnder net inputs_at_zero x → (t k : ℕ) → t < length net.transitions → 1 ≤ k → Reached net x t k
reached net x bound rank ends rr h t k l o =
    let g = (least_is_walk net inputs_at_zero x bound rank ends rr h t k l o).reached in
    record {
      from = g.from;
      number = g.number;
      steps = g.steps;
      from_in = g.from_in;
      from_one = g.from_one;
      walk = g.walk;
      is = g.is ∙ (ap (delayed (walk_time net g.steps)) (g.starts ∙ starts_are net g.from g.number) ∙ ap on_date (omega (arith, ints)));
    }

-- no latest date is before the start of its firing, where a feasible dating keeps the due dates
pub starts_are_kept : (net : NetLists) (due : ℕ → ℕ → Option ℕ) (x : ℕ → ℕ → Date) (plan : PlanDates) → IsNet net
    → IsPlanFor net due plan → IsLeastUnder net inputs_at_zero x → KeepsDues net due x → StartsAreKept net plan
starts_are_kept net due x plan ok for h keeps t k l o =
    at_most_trans (on_date (pos (start_date net t k))) (x t k) (dates_of_plan plan t k)
    (not_before_ready net inputs_at_zero x h.feasible t k l o)
    (kept_below net due inputs_at_zero x (net_ends net ok) h.feasible keeps t k (dates_of_plan plan t k) l o (for.latest t k l o))

-- the plan of the one row has a firing whose latest date is its start, where the walk of the least date begins
pub start_is_there : (net : NetLists) (r : DueRow) (x : ℕ → ℕ → Date) (plan : PlanDates) → IsNet net → KeepsSizes plan
    → IsPlanFor net (due_in (r ∷ [])) plan → NamesFiring net r → IsLeastUnder net inputs_at_zero x
    → x r.transition.index r.number ≡ on_date (pos r.date) → StartsAreKept net plan → HasDateAtStart net plan
start_is_there net r x plan ok is for names h here kept =
    let ends = net_ends net ok in
    let g : Reached net x r.transition.index r.number = reached net x (rank_bound net) (rank_in net) ends (ranks_in net ends for.live) h r.transition.index r.number names.in_range names.from_one in
    let start : ℕ = start_date net g.from g.number in
    let sum : delayed (walk_time net g.steps) (on_date (pos start)) ≡ on_date (pos (start + walk_time net g.steps)) = ap on_date (omega (arith, ints)) in
    let leads : IsDateToDue net (due_in (r ∷ [])) g.from g.number (on_date (pos start)) =
    record { to = r.transition.index; number = r.number; due_date = r.date; steps = g.steps; walk = g.walk; is_due = one_due r; is = sum ∙ (sym g.is ∙ here) } in
    let up : IsAtMostDate (dates_of_plan plan g.from g.number) (on_date (pos start)) = (for.latest g.from g.number g.from_in g.from_one).least (on_date (pos start)) leads in
    let at : dates_of_plan plan g.from g.number ≡ on_date (pos start) = same_by_at_most (dates_of_plan plan g.from g.number) (on_date (pos start)) up (kept g.from g.number g.from_in g.from_one) in
    let wide = for.width in
    (g.from, g.number, record { in_range = rw wide g.from_in; from_one = g.from_one; to_last = in_numbers plan g.from g.number start is at; is = at })

-- the walk by the plan's steps from there is late
pub tight_is_late : (net : NetLists) (r : DueRow) (t k : ℕ) (date : Date) (w : Walk) → date ≡ on_date (pos (start_date net t k)) → IsTightWalk net (due_in (r ∷ [])) t k date w
    → IsLateWalk net r.transition.index r.number (start_date net w.start.index w.number) r.date w
tight_is_late net r t k date w at h =
    let l = h.leads in
    let e = due_one r l.0 l.1 l.2 l.4 in
    let start : ℕ = start_date net t k in
    let time : delayed (walk_time net w.steps.items) (on_date (pos start)) ≡ on_date (pos l.2) = ap (delayed (walk_time net w.steps.items)) (sym at) ∙ l.5 in
    let low = at_most_is (delayed (walk_time net w.steps.items) (on_date (pos start))) (on_date (pos l.2)) time in
    let high = at_most_is (on_date (pos l.2)) (delayed (walk_time net w.steps.items) (on_date (pos start))) (sym time) in
    record {
      is_walk = h.is_walk;
      ends = rw (h.from, h.number, e.0, e.1) l.3;
      starts = refl;
      takes = rw (h.from, h.number) (omega (arith, ints, low, high, e.2));
    }

-- ---- options and results

pub some_by : {X P : Type 0} (o : Option X) → IfNone o (P → ⊥) → P → IsSome o
some_by None h p = absurd (h p)
some_by (Some x) h p = refl

pub ok_map : {X E : Type 0} {P : X → Type 0} (r : Result X E) (Q : X → Type 0) → IfOk r P → ((x : X) → P x → Q x) → IfOk r Q
ok_map (Ok x) Q h f = f x h
ok_map (Err e) Q h f = tt
