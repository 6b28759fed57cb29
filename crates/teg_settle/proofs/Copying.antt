-- A settled form that is copied from rows of the least dating stands for it.
use Rattle.std.proofs.Common.{ℕ, zero, suc, ◌+◌, ◌-◌, ◌<◌, ◌≤◌, ◌≡◌, ◌≢◌, List, [], ◌∷◌, ◌++◌, All, map, Vec, length, get_or, set, refl, sym, ap, subst, ◌∙◌, arith, ⊎_elim}
use Rattle.std.specs.declared.alloc.Global.{Global}
use Rattle.std.specs.Prelude.{ℤ, pos}
use Rattle.std.proofs.lemmas.List.{get_or_default, get_or-map, get_or-set_other, get_or-set_same, length-append, length-map, length-set}
use Rattle.dioid.specs.declared.dates.Date.{Date}
use Rattle.dioid.specs.declared.dates.Date.TheVariants.{Early, Never}
use Rattle.dioid.specs.Dates.{move}
use Rattle.teg_net.specs.Nets.{NetLists, IsNet}
use Rattle.periodic_laws.proofs.teg_model_proofs.DateFunctions.{Dating}
use Rattle.periodic_laws.specs.settled_laws.SettledForms.{IsTail, SettledForm, row_of, step_of_form, HasSizes, StandsFor}
use Rattle.periodic_laws.specs.settled_laws.DateDifferences.{between}
use Rattle.periodic_laws.proofs.settled_laws_proofs.Shortest.{tail_on}
use Rattle.periodic_laws.proofs.settled_laws_proofs.Telling.{form_tells}
use Rattle.date_rows.specs.DateTables.{TableDates, date_at}
use Rattle.teg_settle.specs.declared.releases.Repetition.{Repetition}
use Rattle.settled_forms.specs.KeptForms.{IsFormKept}
use Rattle.teg_settle.specs.Copies.{AreShownDates}
use Rattle.settled_forms.specs.Stored.{stored_form}
use Rattle.teg_settle.specs.ComparedRows.{read_step, IsToldBy}

-- a fact of each element and of one more
pub more : {X : Type 0} (P : ℕ → X → Type 0) (d : X) (xs : List X) (y : X) → ((t : ℕ) → t < length xs → P t (get_or xs t d))
    → P (length xs) y → (t : ℕ) → t < length xs + 1 → P t (get_or (xs ++ y ∷ []) t d)
more P d [] y h e t l = let is : t ≡ 0 = omega arith in rw is e
more P d (x ∷ xs) y h e zero l = h 0 (omega arith)
more P d (x ∷ xs) y h e (suc t) l = more (λ i. P (suc i)) d xs y (λ i m. h (suc i) (omega arith)) e t (omega arith)

pub mapped_more : {X Y : Type 0} (f : X → Y) (P : ℕ → Y → Type 0) (d : Y) (xs : List X) (y : X)
    → ((t : ℕ) → t < length xs → P t (get_or (map f xs) t d)) → P (length xs) (f y) → (t : ℕ) → t < length xs + 1 → P t (get_or (map f (xs ++ y ∷ [])) t d)
mapped_more f P d [] y h e t l = let is : t ≡ 0 = omega arith in rw is e
mapped_more f P d (x ∷ xs) y h e zero l = h 0 (omega arith)
mapped_more f P d (x ∷ xs) y h e (suc t) l = mapped_more f (λ i. P (suc i)) d xs y (λ i m. h (suc i) (omega arith)) e t (omega arith)

-- no dates
pub shown_none : (rows : TableDates) (t : ℕ) (dates : List Date) → dates ≡ [] → AreShownDates rows t 0 dates
shown_none rows t dates is = subst (AreShownDates rows t 0) (sym is) (record { long = refl; same = λ k o m. absurd (omega (arith, o, m)) })

-- dates, and that of the next number
pub shown_more : (rows : TableDates) (t n : ℕ) (dates all : List Date) (d : Date) → AreShownDates rows t n dates → d ≡ date_at rows t (n + 1) → all ≡ dates ++ d ∷ [] → AreShownDates rows t (n + 1) all
shown_more rows t n dates all d h e is = subst (AreShownDates rows t (n + 1)) (sym is) (record {
  long = length-append dates (d ∷ []) ∙ ap (λ m. m + 1) h.long;
  same = λ k o m.
      let here : (k - 1) + 1 ≡ k = omega arith in
      let last : d ≡ date_at rows t (length dates + 1) = e ∙ ap (λ m. date_at rows t (m + 1)) (sym h.long) in
      let before : (i : ℕ) → i < length dates → get_or dates i Early ≡ date_at rows t (i + 1) = λ i l.
      let back : (i + 1) - 1 ≡ i = omega arith in
      ap (λ j. get_or dates j Early) (sym back) ∙ h.same (i + 1) (omega arith) (omega (arith, l, h.long)) in
      more (λ i x. x ≡ date_at rows t (i + 1)) Early dates d before last (k - 1) (omega (arith, o, m, h.long))
      ∙ ap (date_at rows t) here;
})

-- one list of several, and the others
pub row_there : (table : List (Vec Date Global)) (i : ℕ) (d : Vec Date Global) → i < length table → get_or (map (λ r. r.items) table) i [] ≡ (get_or table i d).items
row_there table i d l = get_or-map (λ r. r.items) table i d [] l

pub row_set : (P : List Date → Type 0) (table : List (Vec Date Global)) (i : ℕ) (v : Vec Date Global) → i < length table → P v.items → P (get_or (map (λ r. r.items) (set table i v)) i [])
row_set P table i v l h = subst P (sym (row_there (set table i v) i v (omega (arith, l, length-set table i v)) ∙ ap (λ r. r.items) (get_or-set_same table i v v l))) h

pub row_apart : (P : List Date → Type 0) (table : List (Vec Date Global)) (i : ℕ) (v : Vec Date Global) (t : ℕ) → t < length table → t ≢ i
    → P (get_or (map (λ r. r.items) table) t []) → P (get_or (map (λ r. r.items) (set table i v)) t [])
row_apart P table i v t l ne h =
    subst P
    (row_there table t v l ∙ sym (row_there (set table i v) t v (omega (arith, l, length-set table i v)) ∙ ap (λ r. r.items) (get_or-set_other table i t v v ne)))
    h

-- the form has the dates and the steps of the rows
pub record IsCopy (net : NetLists) (table : TableDates) (f : Repetition) (s : SettledForm) : Type 0 where
  pub after : s.after ≡ f.after
  pub period : s.period ≡ f.period
  pub rows_count : length s.rows ≡ length net.transitions
  pub steps_count : length s.steps ≡ length net.transitions
  pub dates : (t : ℕ) → t < length net.transitions → AreShownDates table t (f.after + f.period) (row_of s t)
  pub moves : (t : ℕ) → t < length net.transitions → step_of_form s t ≡ read_step table f.period t

-- the dates and the steps of all transitions, each its own
pub copied : (net : NetLists) (table : TableDates) (f : Repetition) (rows : List (Vec Date Global)) (steps : List ℤ) (own : List ℕ)
    → length own ≡ length net.transitions → ((t : ℕ) → t < length net.transitions → get_or own t 0 ≡ t)
    → ((t : ℕ) → t < length net.transitions → AreShownDates table t (f.after + f.period) (get_or (map (λ r. r.items) rows) t []))
    → ((t : ℕ) → t < length net.transitions → get_or steps t (pos 0) ≡ read_step table f.period t)
    → IsCopy net table f (stored_form f.after f.period (map (λ r. r.items) rows) steps own)
copied net table f rows steps own count each dates moves =
    let row : ℕ → List Date = λ i. get_or (map (λ r. r.items) rows) i [] in
    let step : ℕ → ℤ = λ i. get_or steps i (pos 0) in
    record {
      after = refl;
      period = refl;
      rows_count = length-map own row ∙ count;
      steps_count = length-map own step ∙ count;
      dates = λ t l. subst (AreShownDates table t (f.after + f.period)) (sym (get_or-map row own t 0 [] (omega (arith, l, count)) ∙ ap row (each t l))) (dates t l);
      moves = λ t l. get_or-map step own t 0 (pos 0) (omega (arith, l, count)) ∙ (ap step (each t l) ∙ moves t l);
    }

-- their numbers are those of rows
pub own_in : (n : ℕ) (rows : List (Vec Date Global)) (own : List ℕ) → length rows ≡ n → length own ≡ n → ((t : ℕ) → t < n → get_or own t 0 ≡ t) → All (λ i. i < length (map (λ r. r.items) rows)) own
own_in n rows own count long each = λ i d l. rw (get_or_default own i d 0 l) (omega (arith, each i (omega (arith, l, long)), length-map rows (λ r. r.items), count, l, long))

copy_sizes : (net : NetLists) (rows : TableDates) (f : Repetition) (s : SettledForm) → IsCopy net rows f s → 1 ≤ f.period → HasSizes (length net.transitions) s
copy_sizes net rows f s c one = record {
  at_least_one = omega (arith, c.period);
  rows_are = c.rows_count;
  steps_are = c.steps_count;
  full = λ i d l.
      let wide : length (get_or s.rows i []) ≡ f.after + f.period = (c.dates i (omega (arith, c.rows_count))).long in
      rw (get_or_default s.rows i d [] l) (omega (arith, wide, c.after, c.period));
}

-- a step is 0 where the last dates are all this one, which no step moves
copy_still : (net : NetLists) (rows : TableDates) (f : Repetition) (x : Dating) (t : ℕ) (d : Date) → IsToldBy net rows f x → t < length net.transitions
    → ((s : ℤ) → move s d ≡ d) → ((e : Date) → between d e ≡ pos 0) → IsTail (x t) f.after f.period d → read_step rows f.period t ≡ pos 0
copy_still net rows f x t d told l stays none tail =
    let w = told.window in
    let fits = told.fits in
    let one = w.some in
    let end : ℕ = rows.count - f.period in
    let last : x t end ≡ d = tail_on (x t) f.after f.period (read_step rows f.period t) d one (stays (read_step rows f.period t))
    (λ k m. told.repeats.again t k l m) tail end end (omega arith) (omega arith) in
    ap (λ e. between e (date_at rows t rows.count)) (told.dates t end l (omega arith) (omega arith) ∙ last) ∙ none (date_at rows t rows.count)

pub copy_stands : (net : NetLists) (rows : TableDates) (f : Repetition) (s : SettledForm) (x : Dating) → IsCopy net rows f s → IsToldBy net rows f x → StandsFor (length net.transitions) s x
copy_stands net rows f s x c told = record {
  sizes = copy_sizes net rows f s c told.window.some;
  dates = λ t k l o m. (c.dates t l).same k o (omega (arith, c.after, c.period)) ∙ told.dates t k l o (omega (arith, c.after, c.period));
  repeats = record {
    at_least_one = omega (arith, c.period, told.window.some);
    again = λ t k l m. rw (c.period, c.moves t l) (told.repeats.again t k l (omega (arith, c.after)));
  };
  still = λ t l e. c.moves t l
      ∙ ⊎_elim
      (λ (n : IsTail (x t) s.after s.period Never). copy_still net rows f x t Never told l (λ s. refl) (λ e. refl) (rw (c.after, c.period) at n))
      (λ (n : IsTail (x t) s.after s.period Early). copy_still net rows f x t Early told l (λ s. refl) (λ e. refl) (rw (c.after, c.period) at n))
      e;
}

pub copy_kept : (net : NetLists) (rows : TableDates) (f : Repetition) (s : SettledForm) (x : Dating) → IsNet net → IsCopy net rows f s → IsToldBy net rows f x → IsFormKept s
copy_kept net rows f s x ok c told =
    let stands = copy_stands net rows f s x c told in
    let few = told.window.few in
    let fits = told.fits in
    record {
      sizes = rw c.rows_count stands.sizes;
      few = omega (arith, c.rows_count, ok.few_transitions);
      short = omega (arith, c.after, c.period);
      within = λ t k l o m.
          let in' : t < length net.transitions = omega (arith, c.rows_count) in
          rw (form_tells (length net.transitions) s x stands t k in' o) (told.within t k in' o m);
    }
