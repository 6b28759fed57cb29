-- A dating keeps due dates just where it keeps the rows, and so Late and kept due dates exclude each other.
use Rattle.std.proofs.Common.{ℕ, ◌<◌, ◌≡◌, List, length, get_or, Option, Some, None, refl, sym, ap, subst, ◌∙◌, arith}
use Rattle.std.specs.Prelude.{pos, All, IsSomeAnd, slice_get}
use Rattle.std.proofs.lemmas.Int.{ints}
use Rattle.std.proofs.lemmas.List.{get_or_default}
use Rattle.std.proofs.lemmas.Option.{get_or_from_slice_get, slice_get_within}
use Rattle.date_rows.specs.dioid.declared.dates.Date.{Date}
use Rattle.date_rows.specs.dioid.declared.dates.Date.TheVariants.{At}
use Rattle.date_rows.specs.dioid.Dates.{IsAtMostDate}
use Rattle.teg_net.specs.Nets.{NetLists}
use Rattle.date_rows.proofs.teg_model_proofs.OfNet.{only_least}
use Rattle.due_laws.specs.MeetingDueDates.{KeepsDues, inputs_at_zero}
use Rattle.teg_due.specs.declared.rows.DueRow.{DueRow}
use Rattle.teg_due.specs.RowRules.{IsDueOf, due_in}
use Rattle.teg_jit.specs.PlansAndLateness.{DuesAreKeptByRows, LateExcludesMeet}
use Rattle.teg_jit.specs.LateRefusals.{KeepsRow}
use Rattle.teg_due.proofs.DueOnce.{no_row}
use Rattle.teg_due.proofs.DueRows.{due_of_row, row_of_due}

keeps_rows : (net : NetLists) (rows : List DueRow) → IsDueOf net rows → (x : ℕ → ℕ → Date) → KeepsDues net (due_in rows) x → All (KeepsRow x) rows
keeps_rows net rows ok x keeps i q l =
    let r : DueRow = get_or rows i q in
    let own = ok.each i q l in
    keeps r.transition.index r.number r.date own.in_range own.from_one (due_of_row rows i r ok.once l (get_or_default rows i r q l))

pub kept_by_rows : DuesAreKeptByRows
kept_by_rows net rows ok x = (
  λ keeps. keeps_rows net rows ok x keeps,
  λ kept t k d l o due.
      let r = row_of_due rows t k d due in
      let named = r.2 no_row in
      rw (named.0, named.1, named.2) at (kept r.0 no_row r.1),
)

-- what the row at i names is there
named_row : (rows : List DueRow) (i : ℕ) (P : DueRow → Type 0) → IsSomeAnd (slice_get rows i) P → (i < length rows) × P (get_or rows i no_row)
named_row rows i P h = at_row (slice_get rows i) refl h where
  at_row : (o : Option DueRow) → slice_get rows i ≡ o → IsSomeAnd o P → (i < length rows) × P (get_or rows i no_row)
  at_row None e h = absurd h
  at_row (Some r) e h = (slice_get_within rows i r e, subst P (sym (get_or_from_slice_get rows i r no_row e)) h)

pub late_excludes : LateExcludesMeet
late_excludes net rows ok t number due least start walk h meets =
    let x : ℕ → ℕ → Date = h.0.0 in
    let y : ℕ → ℕ → Date = meets.0 in
    let first = h.0.2 in
    let i : ℕ = first.before in
    let r : DueRow = get_or rows i no_row in
    let there = named_row rows i (λ z. (z.transition ≡ t) × (z.number ≡ number) × (z.date ≡ due)) first.names in
    let names = there.1 in
    let own = ok.each i no_row there.0 in
    let kept : IsAtMostDate (y r.transition.index r.number) (At (pos r.date)) = keeps_rows net rows ok y meets.2 i no_row there.0 in
    let same : x r.transition.index r.number ≡ y r.transition.index r.number = only_least net inputs_at_zero x y h.0.1 meets.1 r.transition.index r.number own.in_range own.from_one in
    let at : x r.transition.index r.number ≡ At (pos least) = ap (λ z. x z.index r.number) names.0 ∙ (ap (λ k. x t.index k) names.1 ∙ first.is_least) in
    let low : IsAtMostDate (At (pos least)) (At (pos r.date)) = subst (λ (z : Date). IsAtMostDate z (At (pos r.date))) (sym same ∙ at) kept in
    absurd (omega (arith, ints, low, names.2, first.late))
