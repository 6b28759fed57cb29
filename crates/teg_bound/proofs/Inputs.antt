-- Where an input is among the transitions.
use Rattle.std.proofs.Common.{ℕ, ◌<◌, ◌≡◌, Some, None, length, get_or, ⊎_elim}
use Rattle.std.specs.Prelude.{Any, IsSomeAnd, slice_get}
use Rattle.std.proofs.lemmas.Option.{slice_get_cases}
use Rattle.teg_net.specs.declared.entries.Role.TheVariants.{Input}
use Rattle.teg_net.specs.declared.entries.Transition.{Transition}
use Rattle.teg_net.specs.Nets.{NetLists, IsInput}

pub input_is_some : (net : NetLists) (t : ℕ) → IsInput net t → Any (λ x. x.role ≡ Input) net.transitions
input_is_some net t h =
    ⊎_elim
    (λ (w : (x : Transition) × (t < length net.transitions) × (slice_get net.transitions t ≡ Some x) × (get_or net.transitions t x ≡ x)).
    (t, w.0, w.1, w.3, rw w.2 at h))
    (λ w. let no : IsSomeAnd None (λ (x : Transition). x.role ≡ Input) = rw w.1 at h in absurd no)
    (slice_get_cases net.transitions t).1
