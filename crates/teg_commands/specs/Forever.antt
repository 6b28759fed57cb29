-- What is said of the latest inputs of a live net for a file of due dates without end.
use Rattle.std.specs.Prelude.{ℕ, ◌≡◌, ◌⊎◌, List, Ok, Err}
use Rattle.endless_due.specs.declared.row.EndlessRow.{EndlessRow}
use Rattle.endless_due.specs.EndlessRows.{IsEndlessOf}
use Rattle.teg_forever.specs.declared.releases.ForeverRefusal.{ForeverRefusal}
use Rattle.teg_forever.specs.declared.releases.ForeverRefusal.TheVariants.{Late, TooLong, TooWide, OutOfMemory}
use Rattle.teg_forever.specs.declared.releases.Release.{Release}
use Rattle.endless_due.specs.declared.refusal.EndlessRefusal.{EndlessRefusal}
use Rattle.endless_due.specs.declared.refusal.EndlessRefusal.TheVariants.{OutOfMemory as NoRoom}
use Rattle.teg_forever.specs.LatestReleases.{AreEndlessReleases, ForeverRefused}
use Rattle.endless_due.specs.EndlessFiles.{endless_of}
use Rattle.teg_forever.specs.EndlessTexts.{Answered, Faulty, IsFaultTold, IsRefusalTold, answer_lines}
use Rattle.teg_net.specs.Nets.{NetLists}
use Rattle.teg_report.specs.teg_text.Lines.{written}
use Rattle.teg_outcome.specs.declared.outcome.Verdict.{Verdict}
use Rattle.teg_outcome.specs.declared.outcome.Verdict.TheVariants.{Done as VerdictDone, Late as VerdictLate, Schedule as VerdictSchedule, TooLong as VerdictTooLong}
use Rattle.teg_outcome.specs.CommandOutcomes.{TellsWhy}

-- the first fault of the file is said
abbrev pub SaysBadEndless : NetLists → List ℕ → Verdict → List ℕ → Type 0
SaysBadEndless net bytes verdict text = (fault : EndlessRefusal) × (endless_of net bytes ≡ Err fault)
    × TellsWhy (λ f. answer_lines net (Faulty f)) IsFaultTold NoRoom VerdictSchedule fault verdict text

-- of endless due dates the latest releases of the inputs are said
abbrev pub SaysReleases : NetLists → List EndlessRow → Verdict → List ℕ → Type 0
SaysReleases net rows verdict text =
    (verdict ≡ VerdictDone) × ((releases : List Release) × AreEndlessReleases net rows releases × (text ≡ written (answer_lines net (Answered (Ok releases)))))

-- how a command ends whose releases are not told; it does not end so for want of memory
abbrev pub EndsUnreleased : ForeverRefusal → Verdict → Type 0
EndsUnreleased (Late transition number due least) verdict = verdict ≡ VerdictLate
EndsUnreleased (TooLong input) verdict = verdict ≡ VerdictTooLong
EndsUnreleased (TooWide input row) verdict = verdict ≡ VerdictTooLong
EndsUnreleased OutOfMemory verdict = ⊥

-- of endless due dates is said why the releases are not told: a late firing, or an input whose series are too long
abbrev pub SaysUnreleased : NetLists → List EndlessRow → Verdict → List ℕ → Type 0
SaysUnreleased net rows verdict text =
    (refusal : ForeverRefusal) × EndsUnreleased refusal verdict × ForeverRefused net rows refusal × IsRefusalTold net refusal
    × (text ≡ written (answer_lines net (Answered (Err refusal))))

-- of endless due dates the latest releases are said, or why they are not told
abbrev pub SaysEndless : NetLists → List EndlessRow → Verdict → List ℕ → Type 0
SaysEndless net rows verdict text = SaysReleases net rows verdict text ⊎ SaysUnreleased net rows verdict text

-- of a live net and a file its first fault is said, or what its endless due dates come to
abbrev pub SaysForever : NetLists → List ℕ → Verdict → List ℕ → Type 0
SaysForever net bytes verdict text =
    SaysBadEndless net bytes verdict text
    ⊎ ((rows : List EndlessRow) × (endless_of net bytes ≡ Ok rows) × IsEndlessOf net rows × SaysEndless net rows verdict text)
