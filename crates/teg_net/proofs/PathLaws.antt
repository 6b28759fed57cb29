-- Paths put together and taken apart.
use Rattle.std.proofs.Common.{ℕ, zero, suc, ◌≡◌, List, [], ◌∷◌, ◌++◌, drop, refl, sym, subst, ◌∙◌, arith}
use Rattle.teg_net.specs.declared.entries.PlaceId.{PlaceId}
use Rattle.teg_net.specs.Nets.{NetLists}
use Rattle.teg_net.specs.Circuits.{place_at, IsPathBetween, IsPath, AreInRange}
use Rattle.teg_net.specs.Paths.{IsPathStart}

pub IsPathBetween-append :
    (net : NetLists) (ps qs : List PlaceId) (a b c : ℕ) → IsPathBetween net a ps b → IsPathBetween net b qs c → IsPathBetween net a (ps ++ qs) c
IsPathBetween-append net [] qs a b c e l = subst (λ x. IsPathBetween net x qs c) (sym e) l
IsPathBetween-append net (p ∷ ps) qs a b c h l =
    (h.0, h.1, IsPathBetween-append net ps qs (place_at net p).to.index b c h.2 l)

pub IsPathBetween-split :
    (net : NetLists) (ps qs : List PlaceId) (a c : ℕ) → IsPathBetween net a (ps ++ qs) c → (b : ℕ) × IsPathBetween net a ps b × IsPathBetween net b qs c
IsPathBetween-split net [] qs a c l = (a, refl, l)
IsPathBetween-split net (p ∷ ps) qs a c h =
    let r = IsPathBetween-split net ps qs (place_at net p).to.index c h.2 in
    (r.0, (h.0, h.1, r.1), r.2)

pub IsPathBetween-in_range : (net : NetLists) (ps : List PlaceId) (a b : ℕ) → IsPathBetween net a ps b → AreInRange net ps
IsPathBetween-in_range net [] a b h i d l = absurd (omega arith)
IsPathBetween-in_range net (p ∷ ps) a b h zero d l = h.0
IsPathBetween-in_range net (p ∷ ps) a b h (suc i) d l = IsPathBetween-in_range net ps (place_at net p).to.index b h.2 i d (omega arith)

-- a path has one end
pub IsPathBetween-one_end : (net : NetLists) (ps : List PlaceId) (a b c : ℕ) → IsPathBetween net a ps b → IsPathBetween net a ps c → b ≡ c
IsPathBetween-one_end net [] a b c h l = sym h ∙ l
IsPathBetween-one_end net (p ∷ ps) a b c h l = IsPathBetween-one_end net ps (place_at net p).to.index b c h.2 l.2

-- after the first i places of a path from start, the rest is a path from at
pub record IsLeft (net : NetLists) (ps : List PlaceId) (start i at : ℕ) : Type 0 where
  pub forth : (b : ℕ) → IsPathBetween net start ps b → IsPathBetween net at (drop i ps) b
  pub back : (b : ℕ) → IsPathBetween net at (drop i ps) b → IsPathBetween net start ps b

pub IsPath-in_range : (net : NetLists) (ps : List PlaceId) → IsPath net ps → AreInRange net ps
IsPath-in_range net ps (a, b, h) = IsPathBetween-in_range net ps a b h

-- a closed path ends where its first place begins
pub IsPathBetween-closed : (net : NetLists) (ps : List PlaceId) (a start end : ℕ) → IsPathBetween net a ps a → IsPathStart net ps start → IsPathBetween net start ps end → end ≡ start
IsPathBetween-closed net [] a start end h s w = absurd s
IsPathBetween-closed net (p ∷ ps) a start end h s w =
    let same : start ≡ a = sym s.1 ∙ h.1 in
    IsPathBetween-one_end net ps (place_at net p).to.index end a w.2 h.2 ∙ sym same

-- what stands past the end of a path
abbrev pub no_id : PlaceId
no_id = record { index = 0 }
