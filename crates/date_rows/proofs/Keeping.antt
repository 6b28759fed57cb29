-- One row more behind the last rows: how many dates there are, and what stands so many rows back.
use Rattle.std.proofs.Common.{ℕ, ◌+◌, ◌-◌, ◌*◌, ◌<◌, ◌≤◌, ◌≡◌, ◌++◌, List, length, get_or, drop, refl, sym, subst, ap, ◌∙◌, arith, ⊎_elim, get_or-drop, length-append, length-drop, pos}
use Rattle.std.proofs.lemmas.Bool.{cases_lt}
use Rattle.std.proofs.lemmas.List.{get_or_append_left, get_or-append_right}
use Rattle.circular_buffer.specs.Buffer.{keep_last}
use Rattle.dioid.specs.declared.dates.Date.{Date}
use Rattle.dioid.specs.declared.dates.Date.TheVariants.{Early, At}
use Rattle.teg_net.specs.Nets.{NetLists}
use Rattle.teg_net.specs.Limits.{greatest_firing_number}
use Rattle.date_rows.specs.KeptRows.{StaysWithin}
use Rattle.date_rows.specs.Passes.{KeptRows, HaveNext, AreRowsBack, IsRowOf}
use Rattle.date_rows.specs.RowPasses.{CanMakeRow}
use Rattle.teg_model.specs.Datings.{listed_releases, system_of}
use Rattle.teg_model.proofs.OfNet.{least_of_system}
use Rattle.teg_model.proofs.DateFunctions.{Dating}
use Rattle.date_rows.specs.declared.order.OrderedPlace.{OrderedPlace}
use Rattle.date_rows.specs.Streams.{CanMakeNextRow, IsLeastRow, LastDates, AreLastDates, rows_kept, date_back, last_rows}
use Rattle.date_rows.proofs.Cells.{rows_below, rows_more, rows_of_more}

-- the last rows with one more: where the room is full, the first row goes
abbrev pub with_row : LastDates → List Date → LastDates
with_row last row = record { width = last.width; reach = last.reach; number = last.number + 1; dates = keep_last (last.reach * last.width) (last.dates ++ row) }

-- the dates are those of as many rows as are kept
pub full_with_row : (last : LastDates) (row : List Date) → AreLastDates last → length row ≡ last.width → length (with_row last row).dates ≡ rows_kept (with_row last row) * last.width
full_with_row last row h full =
    let all = length-append last.dates row in
    let cut = length-drop (length (last.dates ++ row) - last.reach * last.width) (last.dates ++ row) in
    let more = rows_of_more last.width last.number last.reach in
    omega (arith, all, cut, more, h.full, full)

-- the new row is the last
back_one : (last : LastDates) (row : List Date) (t : ℕ) → AreLastDates last → length row ≡ last.width → t < last.width → 1 ≤ last.reach
    → date_back (with_row last row) t 1 ≡ get_or row t Early
back_one last row t h full l r =
    let w = last.width in
    let ds = last.dates in
    let all = ds ++ row in
    let n = length all - last.reach * w in
    let i = length (drop n all) - 1 * w + t in
    let kept = full_with_row last row h full in
    let room = rows_below w 1 (rows_kept (with_row last row)) (omega arith) in
    let place : n + i ≡ length ds + t = omega (arith, length-append ds row, length-drop n all, full, kept, room) in
    let at : length ds + t - length ds ≡ t = omega arith in
    get_or-drop n all i Early
    ∙ (ap (λ z. get_or all z Early) place
    ∙ (get_or-append_right ds row (length ds) (length ds + t) Early refl (omega arith)
    ∙ ap (λ z. get_or row z Early) at))

-- and each other row is one further back
back_more : (last : LastDates) (row : List Date) (t b : ℕ) → AreLastDates last → length row ≡ last.width → t < last.width → 1 ≤ b → b + 1 ≤ rows_kept (with_row last row)
    → date_back (with_row last row) t (b + 1) ≡ date_back last t b
back_more last row t b h full l o m =
    let w = last.width in
    let ds = last.dates in
    let all = ds ++ row in
    let n = length all - last.reach * w in
    let i = length (drop n all) - (b + 1) * w + t in
    let kept = full_with_row last row h full in
    let more = rows_more w b 1 in
    let room = rows_below w (b + 1) (rows_kept (with_row last row)) m in
    let one = rows_below w 1 b o in
    let place : n + i ≡ length ds - b * w + t = omega (arith, length-append ds row, length-drop n all, full, kept, more, room) in
    let within : length ds - b * w + t < length ds = omega (arith, length-append ds row, length-drop n all, full, kept, more, room, one) in
    get_or-drop n all i Early ∙ (ap (λ z. get_or all z Early) place ∙ get_or_append_left ds row Early (length ds - b * w + t) within)

-- so the last rows have the new one behind them
pub last_have_next : (last : LastDates) (row : List Date) → AreLastDates last → length row ≡ last.width → HaveNext (last_rows last) (last_rows (with_row last row)) row
last_have_next last row h full = record {
  width = refl;
  reach = refl;
  number = refl;
  there = omega arith;
  kept = omega arith;
  last = λ t l o. back_one last row t h full l (omega arith);
  before = λ t b l o m. back_more last row t b h full l o m;
}

-- and what has the row of the next number behind it are the rows of the dating up to there
pub rows_with_row : (net : NetLists) (x : Dating) (old new : KeptRows) (row : List Date) (k : ℕ) → HaveNext old new row → old.width ≡ length net.transitions
    → AreRowsBack net x k old → IsRowOf net x k row → AreRowsBack net x (k + 1) new
rows_with_row net x old new row k h w past is = record {
  same = λ t b l o m.
      let in' : t < old.width = omega arith in
      ⊎_elim
      (λ (q : b < 2).
      let one : b ≡ 1 = omega arith in
      let at : k + 1 - 1 ≡ k = omega arith in
      rw (one, at) (h.last t in' (omega arith) ∙ is.same t l))
      (λ (q : 2 ≤ b).
      let one : (b - 1) + 1 ≡ b = omega arith in
      let at : k - (b - 1) ≡ k + 1 - b = omega arith in
      ap (new.back t) (sym one) ∙ (h.before t (b - 1) in' (omega arith) (omega arith) ∙ (past.same t (b - 1) l (omega arith) (omega (arith, h.kept)) ∙ ap (x t) at)))
      (cases_lt b 2);
}

-- so where a row of the least dating is made of what is kept, and kept, the next can be made
pub next_goes_on : (net : NetLists) (turns : List OrderedPlace) (old new : KeptRows) (row : List Date) → CanMakeNextRow net turns old
    → HaveNext old new row → IsLeastRow net (old.number + 1) row → CanMakeNextRow net turns new
next_goes_on net turns old new row h next is = record {
  rules = h.rules;
  order = h.order;
  width = next.width ∙ h.width;
  one = rw next.reach h.one;
  reach = rw next.reach h.reach;
  few = rw next.reach h.few;
  there = next.there;
  least = λ x least.
      subst (λ n. AreRowsBack net x (n + 1) new) (sym next.number)
      (rows_with_row net x old new row (old.number + 1) next h.width (h.least x least) (is.same x (least_of_system net (listed_releases net) x least)));
}

-- as a pass in cells that hold its dates makes it
pub can_make_row : (net : NetLists) (turns : List OrderedPlace) (most : ℕ) (can_be_early : Type 0) (rows : KeptRows) (k : ℕ) → CanMakeNextRow net turns rows → k ≡ rows.number + 1
    → k ≤ greatest_firing_number → StaysWithin most k (system_of net (listed_releases net)) → CanMakeRow net turns (system_of net (listed_releases net)) most can_be_early rows k
can_make_row net turns most can_be_early rows k h next few bounded = record {
  rules = h.rules;
  order = h.order;
  early = λ t e. let never : At (pos 0) ≡ Early = e in absurd (cc);
  bounded = bounded;
  one = omega (arith, next);
  few = few;
  reach = record {
    width = h.width;
    last = λ l. omega (arith, l, next, h.one, h.there);
    tokens = λ i d l m. omega (arith, m, next, h.reach i d l, h.there);
  };
  past = rw next h.least;
}
