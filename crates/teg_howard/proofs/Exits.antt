-- What follows from a clause on a Some, and marks that all stand or none.
use Rattle.std.proofs.Common.{ℕ, List, Option, Some, None, Bool, true, false, ◌≡◌, ◌<◌, length, get_or, sym, rules, subst}
use Rattle.std.specs.Prelude.{IfNone, IsSome, All, Any}
use Rattle.std.proofs.lemmas.List.{get_or-replicate, get_or_default}
use lib.ListN.{replicate}
use Rattle.teg_net.specs.declared.entries.PlaceId.{PlaceId}
use Rattle.teg_net.specs.Nets.{NetLists}
use Rattle.teg_net.specs.Parts.{IsPlaceOfPart, to_of}
use Rattle.teg_parts.specs.Components.{IsMarked}
use Rattle.policy_rounds.specs.Policies.{first_id}
use Rattle.teg_parts.proofs.Marks.{flag_past, false_not_true}

pub some_by : {X : Type 0} (o : Option X) (P : Type 0) → IfNone o P → (P → ⊥) → IsSome o
some_by None P h out = absurd (out h)
some_by (Some x) P h out = search rules

pub all_marked : (n t : ℕ) → t < n → IsMarked (replicate n true) t
all_marked n t l = get_or-replicate n t true _ l

pub no_mark : (n t : ℕ) → IsMarked (replicate n false) t → ⊥
no_mark n t m = false_not_true (get_or (replicate n false) t false) (flag_past n t) m

-- where all are marked each circuit in the part passes a marked one
pub any_marked : (net : NetLists) (parts : List ℕ) (part : ℕ) (marked : List Bool) (ps : List PlaceId)
    → marked ≡ replicate (length parts) true → 0 < length ps → All (IsPlaceOfPart net parts part) ps → Any (λ p. IsMarked marked (to_of net p)) ps
any_marked net parts part marked ps e l h =
    let p : PlaceId = get_or ps 0 first_id in
    let in' = (h 0 first_id l).to_member.in_range in
    (0, p, l, get_or_default ps 0 p first_id l, subst (λ x. IsMarked x (to_of net p)) (sym e) (all_marked (length parts) (to_of net p) in'))
