-- How the ending of a request follows from its reads.
use Rattle.std.proofs.Common.{◌≡◌, ℕ, List, [], ◌∷◌, Option, Some, None, Result, refl, sym, subst}
use Rattle.teg_net.specs.Nets.{NetLists}
use Rattle.teg_outside.specs.declared.shelf.ShelfFault.{ShelfFault}
use Rattle.teg_outside.specs.Shelves.{ShelfState}
use Rattle.teg_files.specs.declared.status.Status.{Status}
use Rattle.teg_outcome.specs.declared.outcome.Verdict.{Verdict}
use Rattle.teg_outcome.specs.CommandOutcomes.{Tells}
use Rattle.teg_report.specs.declared.answer.Which.{Which}
use Rattle.teg_report.specs.declared.answer.Which.TheVariants.{Net as NetFile}
use Rattle.teg_files.specs.Endings.{Ending, Whole, Lost, ending_of}
use Rattle.teg_files.specs.Openings.{Opening, Accepted, Refused, OpensNet}
use Rattle.teg_files.specs.Reads.{ReadsOnIfTaken, ReadsAll, OpenedBy}
use Rattle.teg_run.specs.WholeCalls.{Answered}
use Rattle.teg_run.specs.Says.{SaysFile, SaysOutcome}

-- memory ran out at the first file
pub lost_at : (A : Type 0) (which : Which) (name : List ℕ) (files : List (Which × List ℕ)) (old new : ShelfState) →
    OpenedBy {A = A} (λ _ _. ⊥) name old new None → Answered (λ _ _ _. ⊥) ((which, name) ∷ files) old new Lost
lost_at A which name files old new h = (h.0 ∷ [], (new, h.1, tt, refl))

-- the first file is refused
pub refused_at : {A : Type 0} (opens : Result (List ℕ) ShelfFault → Opening A → Type 0) (goes_on : A → List (Result (List ℕ) ShelfFault) → Status → List ℕ → Type 0)
    (which : Which) (name : List ℕ) (files : List (Which × List ℕ)) (old new : ShelfState) (status : Status) (text : List ℕ) →
    OpenedBy opens name old new (Some (Refused status text)) →
    Answered (SaysFile opens goes_on) ((which, name) ∷ files) old new (Whole status text)
refused_at opens goes_on which name files old new status text h =
    (h.0 ∷ [], (new, h.1, tt, refl), (Refused status text, h.2, (refl, (refl, refl))))

-- after an accepted net more may be read
pub after_net : (reply : Result (List ℕ) ShelfFault) (net : NetLists) (replies : List (Result (List ℕ) ShelfFault)) → OpensNet reply (Accepted net) → ReadsOnIfTaken NetFile reply replies
after_net reply net [] h = tt
after_net reply net (next ∷ replies) h = (net, h)

-- the first file is accepted, and the ending goes on with it
pub accepted_at : {A : Type 0} (opens : Result (List ℕ) ShelfFault → Opening A → Type 0) (goes_on : A → List (Result (List ℕ) ShelfFault) → Status → List ℕ → Type 0)
    (which : Which) (name : List ℕ) (file : A) (files : List (Which × List ℕ)) (old mid new : ShelfState) (ending : Ending) →
    ((reply : Result (List ℕ) ShelfFault) (replies : List (Result (List ℕ) ShelfFault)) → opens reply (Accepted file) → ReadsAll mid new files replies → ReadsOnIfTaken which reply replies) →
    OpenedBy opens name old mid (Some (Accepted file)) →
    Answered (goes_on file) files mid new ending → Answered (SaysFile opens goes_on) ((which, name) ∷ files) old new ending
accepted_at opens goes_on which name file files old mid new Lost more h k =
    (h.0 ∷ k.0, (mid, h.1, more h.0 k.0 h.2 k.1, k.1))
accepted_at opens goes_on which name file files old mid new (Whole status text) more h k =
    (h.0 ∷ k.0, (mid, h.1, more h.0 k.0 h.2 k.1, k.1), (Accepted file, h.2, k.2))

-- with no more reads, what a command comes to
pub came_to : (says : Verdict → List ℕ → Type 0) (files : List (Which × List ℕ)) (state : ShelfState) (outcome : Option (Verdict × List ℕ)) →
    Tells says outcome → Answered (SaysOutcome says) files state state (ending_of outcome)
came_to says files state None h = ([], refl)
came_to says files state (Some outcome) h = ([], refl, (refl, (outcome.0, refl, h)))

-- with no more reads, an outcome
pub closed_with : (says : Verdict → List ℕ → Type 0) (files : List (Which × List ℕ)) (state : ShelfState) (outcome : Option (Verdict × List ℕ)) (ending : Ending) →
    ending ≡ ending_of outcome → Tells says outcome → Answered (SaysOutcome says) files state state ending
closed_with says files state outcome ending e h = subst (λ (x : Ending). Answered (SaysOutcome says) files state state x) (sym e) (came_to says files state outcome h)
