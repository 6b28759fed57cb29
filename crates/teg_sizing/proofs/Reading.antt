-- An answer is read back from its text.
use Rattle.std.proofs.Common.{ℕ, ◌≡◌, List, [], ◌∷◌, map, codes, drop, Option, Some, None, refl, ap, ◌∙◌}
use Rattle.std.specs.Prelude.{if◌then◌else◌}
use Rattle.teg_net.specs.declared.entries.PlaceId.{PlaceId}
use Rattle.teg_net.specs.Nets.{NetLists, IsNet}
use Rattle.teg_net.specs.Ratios.{Fraction}
use Rattle.teg_text.specs.WordsOfNames.{name_of_place, place_named, ratio_of_word}
use Rattle.teg_text.specs.ValueWords.{ratio_word}
use Rattle.teg_text.specs.WordReading.{line_at, word, stands_at, number_in, label_in}
use Rattle.teg_text.proofs.Back.{word64_back, ratio_is_word, label_back}
use Rattle.teg_text.proofs.NamesRead.{circuits, place_back, place_is_word, ratio_back}
use Rattle.teg_text.proofs.Telling.{IsReadFrom, same_told}
use Rattle.teg_text.proofs.Words.{decimal_is_word, label_is_word}
use Rattle.teg_net.proofs.PathLaws.{IsPathBetween-in_range}
use Rattle.teg_sizing.specs.declared.sizing.Sizing.{Sizing}
use Rattle.teg_sizing.specs.declared.sizing.Sizing.TheVariants.{Enough, Impossible}
use Rattle.teg_sizing.specs.Sizings.{IsSizing}
use Rattle.teg_sizing.specs.SizingTexts.{ToldSizing, EnoughTold, ImpossibleTold, told_sizing, sizing_lines, HasSizingCircuitIn, IsSizingTold}
use Rattle.teg_sizing.specs.SizingTexts.{SaidSizing, SizingSaid, NoPlaceSaid, said_lines, IsSizingSaid, TextsOfSizingsDiffer}

-- ---- what is read

abbrev circuit_in : NetLists → List (List (List ℕ)) → Option (List PlaceId)
circuit_in net [] = None
circuit_in net (line ∷ lines) = Some (map (place_named net) (drop 1 line))

abbrev told_in : NetLists → List (List (List ℕ)) → ToldSizing
told_in net lines =
    if stands_at 3 (line_at 0 lines) (codes "extra") then EnoughTold (number_in (word 4 (line_at 0 lines))) (circuit_in net (drop 1 lines))
    else ImpossibleTold (map (place_named net) (drop 1 (line_at 1 lines)))

abbrev said_in : NetLists → List (List (List ℕ)) → SaidSizing
said_in net lines =
    if stands_at 0 (line_at 0 lines) (codes "size") then SizingSaid (place_named net (word 1 (line_at 0 lines))) (ratio_of_word (word 2 (line_at 0 lines))) (told_in net lines)
    else NoPlaceSaid (label_in (word 3 (line_at 0 lines)))

-- ---- answers

-- the circuit of an answer is in the net
pub circuit_in_net : (net : NetLists) (r : Fraction) (p : PlaceId) (s : Sizing) → IsSizing net r p s → HasSizingCircuitIn net (told_sizing s)
circuit_in_net net r p (Enough extra None) h = tt
circuit_in_net net r p (Enough extra (Some circuit)) h = IsPathBetween-in_range net circuit.places.items h.circuit.closed.0 h.circuit.closed.0 h.circuit.closed.1
circuit_in_net net r p (Impossible circuit) h = IsPathBetween-in_range net circuit.places.items h.circuit.closed.0 h.circuit.closed.0 h.circuit.closed.1

is_read : (net : NetLists) → IsNet net → (p : PlaceId) (r : Fraction) (s : ToldSizing) → IsSizingTold net p r s → IsReadFrom (told_in net) (sizing_lines net p r s) s
is_read net rules p r (EnoughTold extra None) h = record {
  words = rw (place_is_word net p rules h.place, ratio_is_word r.time r.tokens, decimal_is_word extra) refl;
  back = let number = h.number in ap (λ (n : ℕ). EnoughTold n None) (word64_back extra number);
}
is_read net rules p r (EnoughTold extra (Some circuit)) h = record {
  words = rw (place_is_word net p rules h.place, ratio_is_word r.time r.tokens, decimal_is_word extra, (circuits net rules).passes circuit h.circuit) refl;
  back = rw (word64_back extra h.number, (circuits net rules).back circuit h.circuit) refl;
}
is_read net rules p r (ImpossibleTold circuit) h = record {
  words = rw (place_is_word net p rules h.place, ratio_is_word r.time r.tokens, (circuits net rules).passes circuit h.circuit) refl;
  back = ap ImpossibleTold ((circuits net rules).back circuit h.circuit);
}

-- the place and the target stand in the first line
sizing_said : (net : NetLists) (p : PlaceId) (r : Fraction) (s : ToldSizing)
    → said_in net (sizing_lines net p r s) ≡ SizingSaid (place_named net (name_of_place net p)) (ratio_of_word (ratio_word r.time r.tokens)) (told_in net (sizing_lines net p r s))
sizing_said net p r (EnoughTold extra None) = refl
sizing_said net p r (EnoughTold extra (Some circuit)) = refl
sizing_said net p r (ImpossibleTold circuit) = refl

is_said_back : (net : NetLists) → IsNet net → (a : SaidSizing) → IsSizingSaid net a → IsReadFrom (said_in net) (said_lines net a) a
is_said_back net rules (SizingSaid p r s) h =
    let read = is_read net rules p r s h in
    record {
      words = read.words;
      back = sizing_said net p r s ∙ rw (place_back net p rules h.place, ratio_back r h.time h.tokens, read.back) refl;
    }
is_said_back net rules (NoPlaceSaid name) h = record {
  words = rw (label_is_word name h) refl;
  back = ap NoPlaceSaid (label_back name h);
}

pub texts_of_sizings_differ : TextsOfSizingsDiffer
texts_of_sizings_differ net rules a b h k =
    same_told (said_in net) (said_lines net a) (said_lines net b) a b (is_said_back net rules a h) (is_said_back net rules b k)
