-- What a way to an answer tells of the files of its request.
use Rattle.std.proofs.Common.{◌≡◌, ℕ, ⊎_elim, inl, inr, List, [], ◌∷◌, ◌++◌, map, Some, refl, subst, ap, ◌∙◌}
use Rattle.teg_outside.specs.Causes.{Rose, Rested}
use Rattle.teg_outside.specs.Shelves.{ShelfState, ReadsGrow}
use Rattle.teg_outside.proofs.Counts.{rose_then, rested_then}
use Rattle.teg_outside.proofs.Growth.{reads_grow_then}
use Rattle.teg_report.specs.declared.answer.Which.{Which}
use Rattle.teg_files.specs.declared.status.Status.{Status}
use Rattle.teg_files.specs.declared.status.Status.TheVariants.{Text, Net, ReadFault}
use Rattle.teg_run.specs.Calls.{Call}
use Rattle.teg_run.specs.Headline.{IsAccepted, IsNoText, IsNoNet, CountsAsNoText, HasFault, as_told}
use Rattle.teg_files.specs.RefusalTexts.{too_large_text, fault_text}
use Rattle.teg_run.proofs.Refusals.{Refusal, told_file, accepted_told, accepted_not_refused, no_text_not_accepted, no_net_not_accepted}
use Rattle.teg_run.proofs.Refusals.{no_text_counted, no_text_told, no_net_told, no_text_gives, no_net_gives, refusal_is_said, overlong_told}
use Rattle.teg_run.proofs.Refusals.{fault_told}
use Rattle.teg_run.proofs.Verdicts.{IsGiven, IsSaid, own_is_said}
use Rattle.teg_run.proofs.Ways.{Taken, Way}

-- ---- where files are told

-- a fault of a file that leads to this status, and is told by it
pub record IsFaultOf (wanted : Status) (fault : List (List ℕ × List ℕ) → Which → List ℕ → List ℕ → Type 0) : Type 0 where
  pub not_own : IsGiven wanted → ⊥
  pub not_accepted : (files : List (List ℕ × List ℕ)) (which : Which) (name text : List ℕ) → IsAccepted files which name → fault files which name text → ⊥
  pub told : (files : List (List ℕ × List ℕ)) (old new : ShelfState) (which : Which) (name : List ℕ) (status : Status) (text : List ℕ) →
      old.files ≡ Some files → (status ≡ Text → Rested old.faults new.faults) → status ≡ wanted → Refusal old new which name status text → fault files which name text
  pub gives : (files : List (List ℕ × List ℕ)) (old new : ShelfState) (which : Which) (name : List ℕ) (status : Status) (text said : List ℕ) →
      old.files ≡ Some files → Rested old.faults new.faults → fault files which name said → Refusal old new which name status text → status ≡ wanted

pub text_is_fault : IsFaultOf Text IsNoText
text_is_fault = record { not_own = λ own. own; not_accepted = no_text_not_accepted; told = no_text_told; gives = no_text_gives }

pub net_is_fault : IsFaultOf Net IsNoNet
net_is_fault = record { not_own = λ own. own; not_accepted = no_net_not_accepted; told = no_net_told; gives = no_net_gives }

-- what rested in all rested after a file was taken
still_calm : (old mid new : ShelfState) (which : Which) (name : List ℕ) → Taken old mid which name → Rested old.faults new.faults → Rested mid.faults new.faults
still_calm old mid new which name taken rested = rested_then old.faults mid.faults new.faults taken.read.faults rested

-- a taken file is accepted
taken_accepted : (files : List (List ℕ × List ℕ)) (old mid : ShelfState) (which : Which) (name : List ℕ) → old.files ≡ Some files → Taken old mid which name → IsAccepted files which name
taken_accepted files old mid which name told taken =
    accepted_told files which name taken.bytes (told_file files old.files name taken.bytes told taken.read.answer.3) taken.read.answer.2 taken.accepts

-- the status of a fault comes only from that fault
pub comes_only : (wanted : Status) (fault : List (List ℕ × List ℕ) → Which → List ℕ → List ℕ → Type 0) → IsFaultOf wanted fault →
    (files : List (List ℕ × List ℕ)) (old new : ShelfState) (named : List (Which × List ℕ)) (status : Status) (text : List ℕ) → old.files ≡ Some files →
    (status ≡ Text → Rested old.faults new.faults) → status ≡ wanted → Way old new named status text → HasFault fault files named text
comes_only wanted fault is files old new [] status text told calm e way = absurd (is.not_own (subst IsGiven e way))
comes_only wanted fault is files old new (file ∷ named) status text told calm e way =
    ⊎_elim (λ (refusal : _). inl (is.told files old new file.0 file.1 status text told calm e refusal))
    (λ (on : _). inr (
      taken_accepted files old on.0 file.0 file.1 told on.1,
      comes_only wanted fault is files on.0 new named status text (on.1.read.files ∙ told) (λ t. still_calm old on.0 new file.0 file.1 on.1 (calm t)) e on.2,
    )) way

-- the status Text comes only from a file that is no text, or from one that counted as too long
pub counted_only : (files : List (List ℕ × List ℕ)) (call : Call) (old new : ShelfState) (named : List (Which × List ℕ)) (status : Status) (text : List ℕ) → old.files ≡ Some files →
    (Rose old.overlong new.overlong → Rose call.shelf_before.overlong call.shelf_after.overlong) → status ≡ Text → Way old new named status text →
    HasFault (CountsAsNoText call) files named text
counted_only files call old new [] status text told rise e way = absurd (subst IsGiven e way)
counted_only files call old new (file ∷ named) status text told rise e way =
    ⊎_elim
    (λ (refusal : _). inl (⊎_elim (λ (is : IsNoText files file.0 file.1 text). inl is) (λ (counted : _). inr (counted.0, rise counted.1))
    (no_text_counted files old new file.0 file.1 status text told e refusal)))
    (λ (on : _). inr (
      taken_accepted files old on.0 file.0 file.1 told on.1,
      counted_only files call on.0 new named status text (on.1.read.files ∙ told)
          (λ rose. rise (rose_then old.overlong on.0.overlong new.overlong on.1.read.overlong rose)) e on.2,
    )) way

-- a fault leads to its status
pub follows : (wanted : Status) (fault : List (List ℕ × List ℕ) → Which → List ℕ → List ℕ → Type 0) → IsFaultOf wanted fault →
    (files : List (List ℕ × List ℕ)) (old new : ShelfState) (named : List (Which × List ℕ)) (status : Status) (text said : List ℕ) → old.files ≡ Some files →
    Rested old.faults new.faults → HasFault fault files named said → Way old new named status text → (status ≡ wanted) × HasFault fault files named text
follows wanted fault is files old new [] status text said told calm has way = absurd has
follows wanted fault is files old new (file ∷ named) status text said told calm has way =
    ⊎_elim
    (λ (refusal : _). ⊎_elim
    (λ (here : _). let e = is.gives files old new file.0 file.1 status text said told calm here refusal in
    (e, inl (is.told files old new file.0 file.1 status text told (λ t. calm) e refusal)))
    (λ (later : _). absurd (accepted_not_refused files old new file.0 file.1 status text told calm later.0 refusal)) has)
    (λ (on : _). let accepted = taken_accepted files old on.0 file.0 file.1 told on.1 in
    ⊎_elim (λ (here : _). absurd (is.not_accepted files file.0 file.1 said accepted here))
    (λ (later : _). let rest = follows wanted fault is files on.0 new named status text said (on.1.read.files ∙ told) (still_calm old on.0 new file.0 file.1 on.1 calm) later.1 on.2 in
    (rest.0, inr (accepted, rest.1))) has) way

-- ---- whether files are told or not

-- the status of a way is none of the words, the sink or memory
pub way_is_said : (old new : ShelfState) (named : List (Which × List ℕ)) (status : Status) (text : List ℕ) → Way old new named status text → IsSaid status
way_is_said old new [] status text way = own_is_said status way
way_is_said old new (file ∷ named) status text way =
    ⊎_elim (λ (refusal : _). refusal_is_said old new file.0 file.1 status text refusal)
    (λ (on : _). way_is_said on.0 new named status text on.2) way

-- a text that says that a file is too long tells a count that rose
pub overlong_way : (which : Which) (old new : ShelfState) (named : List (Which × List ℕ)) (status : Status) (text : List ℕ) → status ≡ Text → text ≡ too_large_text which →
    Way old new named status text → Rose old.overlong new.overlong
overlong_way which old new [] status text e t way = absurd (subst IsGiven e way)
overlong_way which old new (file ∷ named) status text e t way =
    ⊎_elim (λ (refusal : _). overlong_told old new file.0 which file.1 status text e t refusal)
    (λ (on : _). rose_then old.overlong on.0.overlong new.overlong on.1.read.overlong (overlong_way which on.0 new named status text e t on.2)) way

-- a fault of a read tells a count that rose, and names the last file that was read
pub fault_way : (old new : ShelfState) (named : List (Which × List ℕ)) (status : Status) (text : List ℕ) → status ≡ ReadFault → Way old new named status text →
    Rose old.faults new.faults × ((before : List (Which × List ℕ)) × (file : Which × List ℕ) × (after : List (Which × List ℕ))
    × (named ≡ before ++ file ∷ after) × ReadsGrow old.reads new.reads (map as_told (before ++ file ∷ [])) × (text ≡ fault_text file.0))
fault_way old new [] status text e way = absurd (subst IsGiven e way)
fault_way old new (file ∷ named) status text e way =
    ⊎_elim
    (λ (refusal : _). let fault = fault_told old new file.0 file.1 status text e refusal in
    (fault.0, ([], file, named, refl, fault.2, fault.1)))
    (λ (on : _). let rest = fault_way on.0 new named status text e on.2 in (
      rose_then old.faults on.0.faults new.faults on.1.read.faults rest.0,
      (
        file ∷ rest.1.0,
        rest.1.1,
        rest.1.2,
        ap (λ (l : List (Which × List ℕ)). file ∷ l) rest.1.3,
        reads_grow_then old.reads on.0.reads new.reads (as_told file ∷ []) (map as_told (rest.1.0 ++ rest.1.1 ∷ [])) on.1.read.answer.4 rest.1.4,
        rest.1.5,
      ),
    )) way
