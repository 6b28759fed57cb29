-- Entries read from lists, places read by their numbers, and what is written back into a list.
use Rattle.std.proofs.Common.{ℕ, List, ◌++◌, ◌<◌, ◌≡◌, length, get_or, take, drop, ap, subst, ◌∙◌}
use Rattle.std.proofs.Math.Seq.{take-append_seam}
use Rattle.std.proofs.lemmas.List.{get_or_read}
use Rattle.teg_net.specs.declared.entries.Place.{Place}
use Rattle.teg_net.specs.declared.entries.PlaceId.{PlaceId}
use Rattle.teg_net.specs.Nets.{NetLists}
use Rattle.teg_net.specs.Circuits.{no_place, place_at}

-- an entry read from a list is that of an equal list, whatever stands past the end
pub read : {X : Type 0} (xs ys : List X) (i : ℕ) (q d : X) → xs ≡ ys → i < length ys → q ≡ get_or xs i q → q ≡ get_or ys i d
read xs ys i q d e l is = get_or_read ys i q l (is ∙ ap (λ z. get_or z i q) e) d

-- a place read by its number
pub read_place : (net : NetLists) (xs : List Place) (p : PlaceId) (q : Place) → xs ≡ net.places → p.index < length net.places → q ≡ get_or xs p.index q → q ≡ place_at net p
read_place net xs p q e l is = read xs net.places p.index q no_place e l is

pub same_id : (p q : PlaceId) → p.index ≡ q.index → p ≡ q
same_id p q e = ap (λ (z : ℕ). record { index = z }) e

-- what is written back into a list of that length
pub written_back : {X : Type 0} (new old : List X) (n : ℕ) → length new ≡ n → take n (new ++ drop (length new) old) ≡ new
written_back new old n e = subst (λ m. take m (new ++ drop (length new) old) ≡ new) e (take-append_seam new (drop (length new) old))
