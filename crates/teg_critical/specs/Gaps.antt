-- What the paths back from the end of a place to its start lack, with the place, to a ratio (chapter 3).
use Rattle.std.specs.Prelude.{ℕ, ◌+◌, ◌*◌, ◌≤◌, ◌≡◌, List, ◌∷◌}
use Rattle.teg_net.specs.declared.entries.PlaceId.{PlaceId}
use Rattle.teg_net.specs.Nets.{NetLists}
use Rattle.teg_net.specs.Ratios.{Fraction}
use Rattle.teg_net.specs.Circuits.{from_of, IsPathBetween, time_of, tokens_of}
use Rattle.teg_net.specs.Parts.{to_of}

-- the least that a path back lacks, with the place: by so much its time, times the ratio's tokens, is below the ratio's time, times its tokens
pub record IsGap (net : NetLists) (r : Fraction) (p : PlaceId) (gap : ℕ) : Type 0 where
  pub attained : (ps : List PlaceId) × IsPathBetween net (to_of net p) ps (from_of net p) × (time_of net (p ∷ ps) * r.tokens + gap ≡ r.time * tokens_of net (p ∷ ps))
  pub least : (ps : List PlaceId) → IsPathBetween net (to_of net p) ps (from_of net p) → time_of net (p ∷ ps) * r.tokens + gap ≤ r.time * tokens_of net (p ∷ ps)
