-- A firing that fails is not legal, and a legal run is replayed to its end.
use Rattle.std.proofs.Common.{ℕ, zero, suc, [], ◌∷◌, ◌<◌, ◌≡◌, List, length, take, get_or, refl, sym, ap, ◌∙◌, arith}
use Rattle.std.specs.Prelude.{Result, Ok, Err, IfOk}
use Rattle.std.proofs.lemmas.List.{take-map, length-map}
use Rattle.teg_net.specs.Nets.{NetLists, IsNet}
use Rattle.teg_net.proofs.NetRules.{net_ends}
use Rattle.teg_outside.specs.declared.monitor.Firing.{Firing}
use Rattle.run_laws.specs.declared.fired.Fired.{Fired}
use Rattle.teg_due.specs.declared.rows.LogRow.{LogRow}
use Rattle.teg_replay.specs.declared.replayed.Replayed.{Replayed}
use Rattle.teg_replay.specs.declared.refusal.FireRefusal.{FireRefusal}
use Rattle.teg_replay.specs.declared.refusal.FireRefusal.TheVariants.{Illegal, BackInTime, BeforeRelease, OutOfMemory}
use Rattle.run_laws.specs.Runs.{next_number, IsLegalAfter, IsLegalRun}
use Rattle.teg_replay.specs.RefusedFirings.{IsRightFireRefusal, IsFailure}
use Rattle.teg_replay.specs.Firings.{IsFiringOf}
use Rattle.teg_replay.specs.Replays.{fired_of, run_of}
use Rattle.teg_replay.specs.RunsAndLeastDates.{StandsToLeastDates, AcceptsLegalRuns, AcceptsEarliestRuns}
use Rattle.run_laws.proofs.Failing.{not_legal}
use Rattle.run_laws.proofs.Least.{legal_open, open_least, not_early, earliest_least}
use Rattle.run_laws.proofs.InOrder.{parts_legal}
use Rattle.teg_replay.proofs.Replaying.{no_row}

pub failure_not_legal : (net : NetLists) (run : List Fired) (f : Fired) (why : FireRefusal) → IsRightFireRefusal net run f why → IsFailure why → IsLegalAfter net run f → ⊥
failure_not_legal net run f (Illegal id date) h i g = not_legal.late net run f id date h g
failure_not_legal net run f (BackInTime last) h i g = not_legal.back net run f last h g
failure_not_legal net run f (BeforeRelease release) h i g = not_legal.unreleased net run f release h g
failure_not_legal net run f OutOfMemory h i g = absurd i

pub stands_to_least : (net : NetLists) (run : List Fired) (f : Fired) (firing : Firing) → IsNet net → IsLegalRun net run → IsLegalAfter net run f → IsFiringOf net run f firing
    → StandsToLeastDates net run firing
stands_to_least net run f firing ok legal g told live x h = record {
  not_early = rw (told.transition, told.number, told.date)
      (open_least net x run f.transition.index (next_number run f.transition.index) f.date (net_ends net ok) live h
      (not_early net x run (net_ends net ok) live h legal) g.transition_in (omega arith) (legal_open net run f legal g));
  earliest = λ dated. rw (told.transition, told.number) (earliest_least net x run f.transition.index firing.earliest (net_ends net ok) live h dated g.transition_in told.earliest);
}

mapped : (rows : List LogRow) (n : ℕ) (d : LogRow) (e : Fired) → n < length rows → get_or (run_of rows) n e ≡ fired_of (get_or rows n d)
mapped [] n d e l = absurd (omega arith)
mapped (row ∷ rows) zero d e l = refl
mapped (row ∷ rows) (suc n) d e l = mapped rows n d e (omega arith)

-- a row that fails after the rows before it is in no legal run
fails_in_run : (net : NetLists) (rows : List LogRow) (i : ℕ) (run : List Fired) (row : LogRow) (why : FireRefusal) → i < length rows
    → ((d : LogRow) → get_or rows i d ≡ row) → run ≡ run_of (take i rows)
    → IsRightFireRefusal net run (fired_of row) why → IsFailure why → IsLegalRun net (run_of rows) → ⊥
fails_in_run net rows i run row why l is r right failed legal =
    let long : length (run_of rows) ≡ length rows = length-map rows fired_of in
    let first : take i (run_of rows) ≡ run = take-map fired_of i rows ∙ sym r in
    let own = legal i (fired_of row) (omega (arith, long, l)) in
    let item : get_or (run_of rows) i (fired_of row) ≡ fired_of row = mapped rows i no_row (fired_of row) l ∙ ap fired_of (is no_row) in
    failure_not_legal net run (fired_of row) why right failed (rw (first, item) at own)

pub refused_not_legal : {E : Type 0} (net : NetLists) (rows : List LogRow) (i : ℕ) (run : List Fired) (row : LogRow) (why : FireRefusal) (result : Result Replayed E) → i < length rows
    → ((d : LogRow) → get_or rows i d ≡ row) → run ≡ run_of (take i rows) → IsRightFireRefusal net run (fired_of row) why → IfOk result (λ _. IsFailure why)
    → IfOk result (λ replayed. AcceptsLegalRuns net rows replayed)
refused_not_legal net rows i run row why (Ok replayed) l is r right failed = λ legal. absurd (fails_in_run net rows i run row why l is r right failed legal)
refused_not_legal net rows i run row why (Err e) l is r right failed = tt

pub refused_not_earliest : {E : Type 0} (net : NetLists) (rows : List LogRow) (i : ℕ) (run : List Fired) (row : LogRow) (why : FireRefusal) (result : Result Replayed E) → IsNet net → i < length rows
    → ((d : LogRow) → get_or rows i d ≡ row) → run ≡ run_of (take i rows) → IsRightFireRefusal net run (fired_of row) why → IfOk result (λ _. IsFailure why)
    → IfOk result (λ replayed. AcceptsEarliestRuns net rows replayed)
refused_not_earliest net rows i run row why (Ok replayed) ok l is r right failed = λ x most n whole least e few same.
    absurd (fails_in_run net rows i run row why l is r right failed (rw same (parts_legal net x most n whole (net_ends net ok) least e few)))
refused_not_earliest net rows i run row why (Err e) ok l is r right failed = tt
