-- A circuit that is told from its lowest numbered transition on.
use Rattle.std.proofs.Common.{ℕ, suc, ◌≤◌, ◌≡◌, List, [], ◌∷◌, get_or, subst, arith}
use Rattle.std.specs.Prelude.{All}
use Rattle.teg_net.specs.declared.entries.PlaceId.{PlaceId}
use Rattle.teg_net.specs.Nets.{NetLists}
use Rattle.teg_net.specs.Circuits.{BeginsLowest, from_of}

pub begins_lowest : (net : NetLists) (ps : List PlaceId) (lowest : ℕ) → ((q : PlaceId) → lowest ≡ from_of net (get_or ps 0 q)) → All (λ p. lowest ≤ from_of net p) ps → BeginsLowest net ps
begins_lowest net [] lowest first all = tt
begins_lowest net (p ∷ ps) lowest first all = λ k q l. subst (λ (z : ℕ). z ≤ from_of net (get_or ps k q)) (first p) (all (suc k) q (omega (arith, l)))
