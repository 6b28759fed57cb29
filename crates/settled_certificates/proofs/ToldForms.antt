-- What the tests of a form that is told tell: where its releases go on evenly, and that the least dating settles so.
use Rattle.std.specs.Prelude.{pos, slice_index_or}
use Rattle.std.proofs.Common.{ℕ, ℤ, ◌+◌, ◌-◌, ◌<◌, ◌≤◌, ◌≡◌, List, [], map, length, get_or, Option, Some, None, refl, sym, ap, ◌∙◌, arith, ⊎_elim, inl, inr}
use Rattle.std.specs.List.{range_with_len}
use Rattle.std.proofs.lemmas.Bool.{cases_lt}
use Rattle.std.proofs.lemmas.Option.{slice_get_past}
use Rattle.std.proofs.lemmas.List.Elements.{All-map}
use Rattle.std.proofs.lemmas.List.FromFn.{get_or-map-range_with_len, length-map-range_with_len}
use Rattle.std.proofs.lemmas.Int.{ints}
use Rattle.dioid.specs.declared.dates.Date.{Date}
use Rattle.dioid.specs.declared.dates.Date.TheVariants.{Early, At, Never}
use Rattle.dioid.specs.Dates.{delayed, move}
use Rattle.teg_net.specs.declared.entries.Again.{Again}
use Rattle.teg_net.specs.declared.entries.InputList.{InputList}
use Rattle.teg_net.specs.declared.entries.Place.{Place}
use Rattle.teg_net.specs.Nets.{NetLists, IsNet, EndsOrGoesOn}
use Rattle.teg_net.specs.Inputs.{moved_by, GoOnBy, list_date, list_of_input}
use Rattle.teg_net.specs.Circuits.{IsLive}
use Rattle.teg_net.specs.Limits.{greatest_every}
use Rattle.teg_net.proofs.InputDates.{IsInputDates-list_date, found_rules}
use Rattle.teg_model.specs.Datings.{IsLeastDating, as_date, listed_releases}
use Rattle.teg_model.proofs.DateFunctions.{Dating}
use Rattle.settled_laws.specs.SettledForms.{RepeatsAfter, IsTail, SettledForm, row_date, HasSizes, StandsFor}
use Rattle.settled_laws.proofs.Driven.{goes_on_again}
use Rattle.settled_laws.proofs.Telling.{form_tells}
use Rattle.dating_certificates.specs.CheckedRows.{AreFirstRows, AreRowsOf, date_in_rows}
use Rattle.dating_certificates.specs.ToldRows.{told_dates, date_told}
use Rattle.settled_certificates.specs.SettledRows.{form_by_rows, SettlesAs, IsStillAfter}
use Rattle.settled_certificates.specs.SettledWindows.{MovesInWindow}
use Rattle.settled_certificates.specs.ToldForms.{ToldForm, told_form, step_told, IsFormTold, ReleasesGoOn, ReleaseMoves, every_told}
use Rattle.dating_certificates.proofs.DatesUpTo.{told_in}
use Rattle.dating_certificates.proofs.WholeRows.{same_count}
use Rattle.teg_model.proofs.OfNet.{net_ends}
use Rattle.settled_certificates.proofs.SettledWindows.{net_clear, windows_go_on}

date_moved : (gap : ℕ) (o : Option ℕ) → as_date (moved_by gap o) ≡ delayed gap (as_date o)
date_moved gap None = refl
date_moved gap (Some d) = ap At (omega (arith, ints))

-- dates by a list go on evenly past it
record GoOnEvenly (u : ℕ → Option ℕ) (long every : ℕ) : Type 0 where
  some : 1 ≤ every
  gap : ℕ
  again : (k : ℕ) → long < k → as_date (u (k + every)) ≡ delayed gap (as_date (u k))
  short : every ≤ greatest_every

evenly : (dates : List ℕ) (o : Option Again) (u : ℕ → Option ℕ) → EndsOrGoesOn dates o → GoOnBy (length dates) o u → GoOnEvenly u (length dates) (every_told o)
evenly dates None u h g = record {
  some = omega arith;
  gap = 0;
  again = λ k l. rw (g (k + 1) (omega arith), g k l) refl;
  short = omega arith;
}
evenly dates (Some a) u h g = record {
  some = h.some;
  gap = a.gap;
  again = λ k l.
      let back : (k + a.every) - a.every ≡ k = omega arith in
      ap as_date (g (k + a.every) (omega arith) ∙ ap (λ j. moved_by a.gap (u j)) back) ∙ date_moved a.gap (u k);
  short = h.every_in;
}

pub span_list : (net : NetLists) (t : ℕ) (l : InputList) → IsNet net → Some l ≡ list_of_input net t → ReleasesGoOn net t (length l.dates) (every_told l.again)
span_list net t l ok e =
    let rules = found_rules net net.inputs t l ok.each_input e in
    let own = evenly l.dates l.again (list_date l.dates l.again) rules.again (IsInputDates-list_date l rules.again).past in
    record {
      some = own.some;
      gap = own.gap;
      again = λ k m. rw (← e) (own.again k m);
      few = rules.few;
      short = own.short;
    }

-- a release that moves up to where its list goes on evenly, and as far again, moves for ever
pub release_goes_on : (f : ToldForm) (t long every : ℕ) → ReleasesGoOn f.told.net t long every
    → ((k : ℕ) → f.after < k → k ≤ f.after + long + every → listed_releases f.told.net t (k + f.period) ≡ move (step_told f t) (listed_releases f.told.net t k))
    → ReleaseMoves f t
release_goes_on f t long every g h k l =
    goes_on_again (listed_releases f.told.net t) long every g.gap f.after (f.after + long) f.period (step_told f t) (record { at_least_one = g.some; again = g.again })
    (omega arith) (omega arith) h k l

-- a window is one of all dates that are the same there
window_of : (net : NetLists) (u x y : Dating) (after period last : ℕ) (step : ℕ → ℤ) → IsNet net
    → ((t k : ℕ) → t < length net.transitions → 1 ≤ k → k ≤ last → x t k ≡ y t k)
    → MovesInWindow net u x after period last step → MovesInWindow net u y after period last step
window_of net u x y after period last step ok same w =
    let some = w.at_least_one in
    let room = w.two_periods in
    record {
      at_least_one = some;
      two_periods = room;
      tokens = w.tokens;
      moves = λ t k l a m.
          sym (same t (k + period) l (omega (arith, a)) m)
          ∙ (w.moves t k l a m ∙ ap (move (step t)) (same t k l (omega (arith, a)) (omega (arith, m))));
      rises = λ i d l.
          let p : Place = get_or net.places i d in
          let ends = ok.each_place i d l in
          ⊎_elim
          (λ e. inl (sym (same p.to.index last ends.to_in (omega (arith, some, room)) (omega arith)) ∙ e))
          (λ b. ⊎_elim
          (λ e. inr (inl (sym (same p.from.index last ends.from_in (omega (arith, some, room)) (omega arith)) ∙ e)))
          (λ e. inr (inr e))
          b)
          (w.rises i d l);
      releases = w.releases;
    }

-- the tests of a form that is told say how its rows move, and the other way round
module _ (net : NetLists) (after period rows : ℕ) (dates : List Date) (steps : List ℤ) (ok : IsNet net) where
  abbrev Rows : Dating → Type 0
  Rows x = MovesInWindow net (listed_releases net) x after period rows (λ t. slice_index_or steps t (pos 0))

  read : (t k : ℕ) → k ≤ rows → date_told (told_dates net rows dates) t k ≡ date_in_rows (length net.transitions) dates t k
  read t k l = told_in rows (length net.transitions) dates t k l

  told_window : IsFormTold (told_form (told_dates net rows dates) after period steps) → Rows (date_told (told_dates net rows dates))
  told_window f = record {
    at_least_one = f.sized.at_least_one;
    two_periods = f.sized.room;
    tokens = f.tokens;
    moves = λ t k l a m. f.moves k a m t l;
    rises = λ i d l. (f.rises i d l).rises;
    releases = λ t k i a.
        ⊎_elim
        (λ (l : t < length net.transitions). f.releases t l i k a)
        (λ (l : length net.transitions ≤ t). absurd (rw (slice_get_past net.transitions t l) at i))
        (cases_lt t (length net.transitions));
  }

  pub window_told : IsFormTold (told_form (told_dates net rows dates) after period steps) → Rows (date_in_rows (length net.transitions) dates)
  window_told f =
      window_of net (listed_releases net) (date_told (told_dates net rows dates)) (date_in_rows (length net.transitions) dates) after period rows
      (λ t. slice_index_or steps t (pos 0)) ok (λ t k l o m. read t k m) (told_window f)

  pub still_told : IsFormTold (told_form (told_dates net rows dates) after period steps) → IsStillAfter (length net.transitions) dates after steps
  still_told f t l e =
      let room = f.sized.room in
      let here = read t (after + 1) (omega (arith, room)) in
      f.still t l (⊎_elim (λ a. inl (here ∙ a)) (λ a. inr (here ∙ a)) e)

  pub form_told : length steps ≡ length net.transitions → rows ≤ 100000000000000000 → Rows (date_in_rows (length net.transitions) dates)
      → IsStillAfter (length net.transitions) dates after steps → IsFormTold (told_form (told_dates net rows dates) after period steps)
  form_told steps_are few moves still =
      let w = window_of net (listed_releases net) (date_in_rows (length net.transitions) dates) (date_told (told_dates net rows dates)) after period rows
      (λ t. slice_index_or steps t (pos 0)) ok (λ t k l o m. sym (read t k m)) moves in
      let room = w.two_periods in
      record {
        sized = record { at_least_one = w.at_least_one; room = room; steps_are = steps_are; small = few };
        tokens = w.tokens;
        moves = λ k a m t l. w.moves t k l a m;
        rises = λ i d l. record { rises = w.rises i d l };
        still = λ t l e.
            let here = read t (after + 1) (omega (arith, room)) in
            still t l (⊎_elim (λ a. inl (sym here ∙ a)) (λ a. inr (sym here ∙ a)) e);
        releases = λ t l i k a. w.releases t k i a;
      }

form_row : (n : ℕ) (dates : List Date) (long t : ℕ) → t < n
    → get_or (map (λ u. map (date_in_rows n dates u) (range_with_len 1 long)) (range_with_len 0 n)) t [] ≡ map (date_in_rows n dates t) (range_with_len 1 long)
form_row n dates long t l = get_or-map-range_with_len (λ u. map (date_in_rows n dates u) (range_with_len 1 long)) 0 n t t [] l (omega arith)

form_date : (n : ℕ) (dates : List Date) (after period : ℕ) (steps : List ℤ) (t k : ℕ) → t < n → 1 ≤ k → k ≤ after + period
    → row_date (form_by_rows n dates after period steps) t k ≡ date_in_rows n dates t k
form_date n dates after period steps t k l o m =
    rw (form_row n dates (after + period) t l)
    (get_or-map-range_with_len (date_in_rows n dates t) 1 (after + period) (k - 1) k Early (omega arith) (omega arith))

form_sizes : (n : ℕ) (dates : List Date) (after period : ℕ) (steps : List ℤ) → 1 ≤ period → length steps ≡ n → HasSizes n (form_by_rows n dates after period steps)
form_sizes n dates after period steps one steps_are = record {
  at_least_one = one;
  rows_are = length-map-range_with_len (λ t. map (date_in_rows n dates t) (range_with_len 1 (after + period))) 0 n;
  steps_are = steps_are;
  full = All-map (λ row. length row ≡ after + period) (λ t. map (date_in_rows n dates t) (range_with_len 1 (after + period))) (range_with_len 0 n)
      (λ i d l. length-map-range_with_len (date_in_rows n dates (get_or (range_with_len 0 n) i d)) 1 (after + period));
}

module _ (net : NetLists) (after period rows : ℕ) (dates : List Date) (steps : List ℤ) (ok : IsNet net) (live : IsLive net) (first : AreFirstRows net dates)
    (whole : AreRowsOf net dates rows) (f : IsFormTold (told_form (told_dates net rows dates) after period steps)) where
  abbrev n : ℕ
  n = length net.transitions

  abbrev form : ToldForm
  form = told_form (told_dates net rows dates) after period steps

  abbrev tells_form : SettledForm
  tells_form = form_by_rows (length net.transitions) dates after period steps

  in_rows : (x : Dating) → IsLeastDating net x → (t k : ℕ) → t < length net.transitions → 1 ≤ k → k ≤ rows → date_in_rows (length net.transitions) dates t k ≡ x t k
  in_rows x least t k l o m =
      let count : first.rows ≡ rows = same_count net dates first.rows rows ok first.whole whole in
      first.same x least t k l o (omega (arith, count, m))

  repeats : (x : Dating) → IsLeastDating net x → RepeatsAfter (length net.transitions) x after period (step_told (told_form (told_dates net rows dates) after period steps))
  repeats x least =
      windows_go_on net (net_ends net ok) (net_clear net ok) live (listed_releases net) x least after period rows (step_told form)
      (window_of net (listed_releases net) (date_in_rows (length net.transitions) dates) x after period rows (step_told form) ok (in_rows x least)
      (window_told net after period rows dates steps ok f))

  stands : (x : Dating) → IsLeastDating net x → StandsFor (length net.transitions) (form_by_rows (length net.transitions) dates after period steps) x
  stands x least =
      let some = f.sized.at_least_one in
      let room = f.sized.room in
      record {
        sizes = form_sizes n dates after period steps some f.sized.steps_are;
        dates = λ t k l o m. form_date n dates after period steps t k l o m ∙ in_rows x least t k l o (omega (arith, m, room));
        repeats = repeats x least;
        still = λ t l e.
            let here = in_rows x least t (after + 1) l (omega arith) (omega (arith, room)) in
            still_told net after period rows dates steps ok f t l
            (⊎_elim
            (λ (a : IsTail (x t) after period Never). inl (here ∙ a (after + 1) (omega arith) (omega (arith, some))))
            (λ (a : IsTail (x t) after period Early). inr (here ∙ a (after + 1) (omega arith) (omega (arith, some))))
            e);
      }

  pub told_settles : SettlesAs net after period dates steps
  told_settles = record {
    first = first;
    stands = stands;
    tells = λ x least t k l o. form_tells n tells_form x (stands x least) t k l o;
  }
