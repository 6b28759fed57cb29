-- What a replay came to can be told, and what the monitors were shown of it.
use Rattle.std.proofs.Common.{◌≡◌, ◌≢◌, ◌++◌, ℕ, Bool, true, false, inl, inr, List, Option, Some, None, Result, Ok, Err, length, take, refl, sym, subst, arith, ◌∷◌, []}
use Rattle.std.proofs.Math.Seq.{take-append_seam}
use Rattle.std.specs.Prelude.{IfSome, is_ok}
use Rattle.teg_replay.specs.run_laws.declared.fired.Fired.{Fired}
use Rattle.teg_due.specs.declared.rows.LogRefusal.{LogRefusal}
use Rattle.teg_due.specs.declared.rows.LogRefusal.TheVariants.{OutOfMemory as NoRoom}
use Rattle.teg_due.specs.declared.rows.LogRow.{LogRow}
use Rattle.teg_due.specs.Logs.{log_of}
use Rattle.teg_net.specs.Nets.{NetLists}
use Rattle.teg_outside.specs.declared.monitor.Firing.{Firing}
use Rattle.teg_replay.specs.declared.refusal.FireRefusal.{FireRefusal}
use Rattle.teg_replay.specs.declared.refusal.FireRefusal.TheVariants.{Illegal, BackInTime, BeforeRelease, OutOfMemory}
use Rattle.teg_replay.specs.declared.replayed.Refused.{Refused}
use Rattle.teg_replay.specs.declared.replayed.Replayed.{Replayed}
use Rattle.teg_replay.specs.RefusedFirings.{Fails}
use Rattle.teg_replay.specs.Replays.{AreFiringsOf, EndsBy, IsReplayOf, WereShown}
use Rattle.teg_replay.proofs.run_laws_proofs.Prefixes.{legal_begins}
use Rattle.teg_outcome.specs.declared.outcome.Verdict.{Verdict}
use Rattle.teg_net.specs.declared.memory.OutOfMemory.{OutOfMemory as NoMemory}
use Rattle.teg_outcome.specs.declared.outcome.CommandOutcome.{CommandOutcome}
use Rattle.teg_outcome.specs.CommandOutcomes.{Tells, outcome_of, TellsWhy}
use Rattle.teg_plan_commands.specs.Replay.{CanTellRefusal, SaysEnd, SaysReplay, SaysRun, ShowsLog, ShowsNothing, ShowsReplay, ShowsRun}
use Rattle.teg_outcome.proofs.Telling.{tells_weaker}
use Rattle.teg_outcome.specs.declared.outcome.Verdict.TheVariants.{Log as VerdictLog}
use Rattle.teg_report.specs.FileRows.{IsLogKept, log_line}

failure_told : (net : NetLists) (run : List Fired) (f : Fired) (why : FireRefusal) → Fails net run f why → CanTellRefusal net why
failure_told net run f (Illegal place date) h = h.in_range
failure_told net run f (BackInTime last) h = tt
failure_told net run f (BeforeRelease release) h = tt
failure_told net run f OutOfMemory h = h

no_row : LogRow
no_row = record { row = 0; transition = record { index = 0 }; date = 0 }

pub end_told : (net : NetLists) (rows : List LogRow) (n : ℕ) (refused : Option Refused) → EndsBy net rows n refused → IfSome refused (λ r. CanTellRefusal net r.why)
end_told net rows n None h = tt
end_told net rows n (Some refused) h = failure_told net _ _ refused.why (h.fails no_row)

-- the end of a replay, after which the monitors tell so
pub run_said : (lines : List Firing → List (List ℕ)) (net other : NetLists) (rows : List LogRow) (firings : List Firing)
    (replayed : Replayed) (told : List (List ℕ)) (outcome : Option (Verdict × List ℕ)) →
    other ≡ net → IsReplayOf other rows firings replayed → Tells (SaysEnd net replayed.refused replayed.accepted told) outcome → told ≡ lines firings → Tells (SaysRun lines net rows) outcome
run_said lines net other rows firings replayed told outcome e of h same =
    tells_weaker (SaysEnd net replayed.refused replayed.accepted told) (SaysRun lines net rows) outcome
    (λ verdict text k. (
      firings,
      replayed,
      subst (λ (n : NetLists). IsReplayOf n rows firings replayed) e of,
      subst (λ (ls : List (List ℕ)). SaysEnd net replayed.refused replayed.accepted ls verdict text) same k,
    )) h

-- what is said of a log whose rows were read
pub log_said : (lines : List Firing → List (List ℕ)) (net other : NetLists) (bytes : List ℕ) (rows given : List LogRow) (outcome : Option (Verdict × List ℕ)) →
    other ≡ net → log_of other bytes ≡ Ok rows → given ≡ rows → Tells (SaysRun lines net given) outcome → Tells (SaysReplay lines net bytes) outcome
log_said lines net other bytes rows given outcome e is same h =
    tells_weaker (SaysRun lines net given) (SaysReplay lines net bytes) outcome
    (λ verdict text k. inr (rows, subst (λ (n : NetLists). log_of n bytes ≡ Ok rows) e is, subst (λ (rs : List LogRow). SaysRun lines net rs verdict text) same k)) h

-- what is said of a log that was refused
pub fault_said : (lines : List Firing → List (List ℕ)) (net other : NetLists) (bytes : List ℕ) (refusal : LogRefusal) (outcome : Option (Verdict × List ℕ)) →
    other ≡ net → (refusal ≢ NoRoom → log_of other bytes ≡ Err refusal)
    → Tells (TellsWhy (λ r. log_line r ∷ []) IsLogKept NoRoom VerdictLog refusal) outcome → Tells (SaysReplay lines net bytes) outcome
fault_said lines net other bytes refusal outcome e is h =
    tells_weaker (TellsWhy (λ r. log_line r ∷ []) IsLogKept NoRoom VerdictLog refusal) (SaysReplay lines net bytes) outcome
    (λ verdict text k. inl (refusal, subst (λ (n : NetLists). log_of n bytes ≡ Err refusal) e (is k.1), k)) h

-- what was written back into a list of so many
pub written_back : {A : Type 0} (count : ℕ) (new rest : List A) → length new ≡ count → take count (new ++ rest) ≡ new
written_back count new rest e = subst (λ (n : ℕ). take n (new ++ rest) ≡ new) e (take-append_seam new rest)

-- ---- what the monitors were shown

-- the firings of a replay were shown, whether it is told or not
pub run_shown : (before now : List Firing → List (List ℕ)) (net other : NetLists) (rows : List LogRow) (firings : List Firing) (replayed : Replayed) (is_told : Bool) →
    other ≡ net → IsReplayOf other rows firings replayed → WereShown before now firings → ShowsRun net rows before now is_told
run_shown before now net other rows firings replayed true e of shown = (firings, replayed, subst (λ (n : NetLists). IsReplayOf n rows firings replayed) e of, shown)
run_shown before now net other rows firings replayed false e of shown = (firings, subst (λ (n : NetLists). AreFiringsOf n rows firings) e of.told, shown)

-- monitors that stay as they were
pub nothing_shown : (lines : List Firing → List (List ℕ)) → ShowsNothing lines lines
nothing_shown lines = record { further = λ more. refl; lines = refl }

-- no row of a log is a first part of it
firings_begin : (net : NetLists) (rows : List LogRow) → AreFiringsOf net rows []
firings_begin net rows = record {
  within = omega arith;
  legal = legal_begins net;
  told = λ i row firing l. absurd (omega arith);
}

-- of a log that is not replayed nothing is shown
none_shown : (before now : List Firing → List (List ℕ)) (net : NetLists) (said : Result (List LogRow) LogRefusal) → ShowsNothing before now → ShowsLog said net before now false
none_shown before now net (Ok rows) h = ([], firings_begin net rows, h)
none_shown before now net (Err refusal) h = h

pub replay_unshown : (net : NetLists) (bytes : List ℕ) (before now : List Firing → List (List ℕ)) → ShowsNothing before now → ShowsReplay net bytes before now false
replay_unshown net bytes before now h = none_shown before now net (log_of net bytes) h

-- so it is with a log that was read
pub log_shown : (before now : List Firing → List (List ℕ)) (net other : NetLists) (bytes : List ℕ) (rows given : List LogRow) (is_told : Bool) →
    other ≡ net → log_of other bytes ≡ Ok rows → given ≡ rows → ShowsRun net given before now is_told → ShowsReplay net bytes before now is_told
log_shown before now net other bytes rows given is_told e is same h =
    let read = subst (λ (n : NetLists). log_of n bytes ≡ Ok rows) e is in
    subst (λ (said : Result (List LogRow) LogRefusal). ShowsLog said net before now is_told) (sym read)
    (subst (λ (rs : List LogRow). ShowsRun net rs before now is_told) same h)

-- of a log that was refused nothing is shown
pub fault_shown : (lines : List Firing → List (List ℕ)) (net other : NetLists) (bytes : List ℕ) (refusal : LogRefusal) (outcome : Result CommandOutcome NoMemory) →
    other ≡ net → (refusal ≢ NoRoom → log_of other bytes ≡ Err refusal)
    → Tells (TellsWhy (λ r. log_line r ∷ []) IsLogKept NoRoom VerdictLog refusal) (outcome_of outcome) → ShowsReplay net bytes lines lines (is_ok outcome)
fault_shown lines net other bytes refusal (Err e) same is h = none_shown lines lines net (log_of net bytes) (nothing_shown lines)
fault_shown lines net other bytes refusal (Ok outcome) same is h =
    subst (λ (said : Result (List LogRow) LogRefusal). ShowsLog said net lines lines true)
    (sym (subst (λ (n : NetLists). log_of n bytes ≡ Err refusal) same (is h.1))) (nothing_shown lines)
