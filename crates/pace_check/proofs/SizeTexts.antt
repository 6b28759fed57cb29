-- Texts of numbers of tokens are read whole.
use Rattle.std.proofs.Common.{ℕ, ◌-◌, ◌<◌, ◌≤◌, ◌≡◌, ◌^◌, ◌⊎◌, inl, inr, true, Option, Some, None, IfSome, List, [], ◌∷◌, length, map, get_or, slice_index_or, drop, refl, sym, ap, subst, ◌∙◌, arith, ⊎_elim}
use Rattle.std.specs.Fmt.{decimal}
use Rattle.std.proofs.lemmas.List.{get_or-map, length-map}
use Rattle.teg_net.specs.declared.entries.PlaceId.{PlaceId}
use Rattle.teg_net.specs.Circuits.{AreInRange, IsCircuit}
use Rattle.teg_net.specs.Nets.{IsNet, NetLists}
use Rattle.teg_net.specs.Ratios.{Fraction}
use Rattle.teg_net.proofs.PathLaws.{IsPathBetween-in_range}
use Rattle.teg_text.specs.Lines.{are_lines, is_line, phrase, written}
use Rattle.teg_text.specs.WordsOfNames.{circuit_line, name_of_place}
use Rattle.teg_text.proofs.Back.{ratio_is_word}
use Rattle.teg_text.proofs.NamesRead.{circuits, place_is_word}
use Rattle.teg_text.proofs.Words.{decimal_is_word}
use Rattle.teg_certificates.specs.Sizes.{IsEnough, IsStillAbove}
use Rattle.teg_certificates.proofs.FurtherTokens.{still_above}
use Rattle.witness_check.specs.NamedPlaces.{NamesEach, ReadsRatio}
use Rattle.witness_check.proofs.NamedPlaces.{same_named}
use Rattle.word_lines.specs.WordLines.{IsTextOf}
use Rattle.word_lines.proofs.Lines.{same_lines}
use Rattle.pace_check.specs.declared.sizes.ShownSize.{ShownSize}
use Rattle.pace_check.specs.declared.sizes.ShownSize.TheVariants.{Enough, Impossible}
use Rattle.pace_check.specs.ShownSizes.{IsAskedSize, IsAtMostEnough, IsShownSize, ShowsSize, TellsEnoughBy, TellsImpossibleBy, enough_words, impossible_words}
use Rattle.pace_check.specs.SizeReading.{FirstWords, ReadsCircuit, ReadsFirst, ReadsSecond, ReadsSize, ShowsEnoughBy, ShowsImpossibleBy, SizeWords, first_of, size_of}
use Rattle.pace_check.proofs.PathPotentials.{extra_small}

-- ---- the lines have words without blanks

enough_is_line : (net : NetLists) (place : PlaceId) (target : Fraction) (extra : ℕ) → IsNet net → IsAskedSize net place target → is_line (enough_words net place target extra) ≡ true
enough_is_line net place target extra ok asked = rw (place_is_word net place ok asked.place_in, ratio_is_word target.time target.tokens, decimal_is_word extra) refl

impossible_is_line : (net : NetLists) (place : PlaceId) (target : Fraction) → IsNet net → IsAskedSize net place target → is_line (impossible_words net place target) ≡ true
impossible_is_line net place target ok asked = rw (place_is_word net place ok asked.place_in, ratio_is_word target.time target.tokens) refl

circuit_is_line : (net : NetLists) (circuit : List PlaceId) → IsNet net → AreInRange net circuit → is_line (circuit_line net circuit) ≡ true
circuit_is_line net circuit ok h = rw ((circuits net ok).passes circuit h) refl

-- ---- lines

-- the line of this number is what was told
line_read : (text : List ℕ) (lines : List (List ℕ)) (told : List (List (List ℕ))) → IsTextOf text (map phrase lines) → are_lines told ≡ true → text ≡ written told
    → (length lines ≡ length told) × ((i : ℕ) → i < length told → phrase (slice_index_or lines i []) ≡ get_or told i [])
line_read text lines told read are is =
    let same : map phrase lines ≡ told = same_lines text (map phrase lines) told read (record { are = are; told = is }) in
    let long : length lines ≡ length told = sym (length-map lines phrase) ∙ ap (λ (ls : List (List (List ℕ))). length ls) same in (
      long,
      λ i l. sym (get_or-map phrase lines i [] [] (omega (arith, l, long))) ∙ ap (λ (ls : List (List (List ℕ))). get_or ls i []) same,
    )

one_line : (line : List (List ℕ)) → is_line line ≡ true → are_lines (line ∷ []) ≡ true
one_line line h = rw h refl

two_lines : (line more : List (List ℕ)) → is_line line ≡ true → is_line more ≡ true → are_lines (line ∷ more ∷ []) ≡ true
two_lines line more h k = rw (h, k) refl

-- ---- the first line

first_same : (e : Option (Option ℕ)) (p : Option PlaceId) (r : Option Fraction) (extra : Option ℕ) (place : PlaceId) (target : Fraction) → e ≡ Some extra → p ≡ Some place → r ≡ Some target
    → first_of e p r ≡ Some (record { place = place; target = target; extra = extra })
first_same e p r extra place target one two three = rw (one, two, three) refl

-- what is read of the words of a number, of a place and of a target
pub record AreFirstRead (net : NetLists) (words : List (List ℕ)) (e : Option (Option ℕ)) (p : Option PlaceId) (r : Option Fraction) : Type 0 where
  pub impossible : length words ≡ 4 → e ≡ Some None
  pub enough : (n : ℕ) → n < 2 ^ 64 → length words ≡ 5 → slice_index_or words 4 [] ≡ decimal n → e ≡ Some (Some n)
  pub place : (q : PlaceId) → q.index < length net.places → slice_index_or words 1 [] ≡ name_of_place net q → p ≡ Some q
  pub target : ReadsRatio (slice_index_or words 2 []) r

asked_small : (net : NetLists) (place : PlaceId) (target : Fraction) → IsAskedSize net place target → (target.time < 2 ^ 64) × (target.tokens < 2 ^ 64)
asked_small net place target asked = let time = asked.within.time in let tokens = asked.within.tokens in (omega (arith, time), omega (arith, tokens))

pub first_read : (net : NetLists) (words : List (List ℕ)) (e : Option (Option ℕ)) (p : Option PlaceId) (r : Option Fraction) → AreFirstRead net words e p r → ReadsFirst net words (first_of e p r)
first_read net words e p r h = record {
  enough = λ place target extra asked small is.
      (let low = asked_small net place target asked in
      first_same e p r (Some extra) place target
      (h.enough extra small (ap (λ (ws : List (List ℕ)). length ws) is) (ap (λ (ws : List (List ℕ)). slice_index_or ws 4 []) is))
      (h.place place asked.place_in (ap (λ (ws : List (List ℕ)). slice_index_or ws 1 []) is))
      (h.target target asked.terms low.0 low.1 (ap (λ (ws : List (List ℕ)). slice_index_or ws 2 []) is)));
  impossible = λ place target asked is.
      (let low = asked_small net place target asked in
      first_same e p r None place target
      (h.impossible (ap (λ (ws : List (List ℕ)). length ws) is))
      (h.place place asked.place_in (ap (λ (ws : List (List ℕ)). slice_index_or ws 1 []) is))
      (h.target target asked.terms low.0 low.1 (ap (λ (ws : List (List ℕ)). slice_index_or ws 2 []) is)));
}

-- ---- the line of a circuit

-- the names behind the first word are those of the circuit
pub circuit_read : (net : NetLists) (words : List (List ℕ)) (found : Option (List PlaceId)) → IsNet net → NamesEach net (drop 1 words) found → ReadsCircuit net words found
circuit_read net words None ok none = record {
  in_range = tt;
  told = λ ps range is. absurd (none ps (record { in_range = range; told = sym (ap (λ (ws : List (List ℕ)). drop 1 ws) is) }));
}
circuit_read net words (Some qs) ok h = record {
  in_range = h.in_range;
  told = λ ps range is. ap Some (same_named net (drop 1 words) qs ps ok h (record { in_range = range; told = sym (ap (λ (ws : List (List ℕ)). drop 1 ws) is) }));
}

pub second_read : (net : NetLists) (lines : List (List ℕ)) (found : Option (List PlaceId)) → 2 ≤ length lines → ReadsCircuit net (phrase (slice_index_or lines 1 [])) found → ReadsSecond net lines found
second_read net lines found two h = record {
  in_range = h.in_range;
  empty = λ few. absurd (omega (arith, two, few));
  told = λ _ ps range is. h.told ps range is;
}

pub no_second_read : (net : NetLists) (lines : List (List ℕ)) (found : Option (List PlaceId)) → length lines < 2 → found ≡ Some [] → ReadsSecond net lines found
no_second_read net lines found few is = record {
  in_range = (rw is (λ i d l. absurd (omega (arith, l))));
  empty = λ _. is;
  told = λ two ps range e. absurd (omega (arith, two, few));
}

-- ---- the whole text

size_same : (f : Option FirstWords) (c : Option (List PlaceId)) (first : FirstWords) (circuit : List PlaceId) → f ≡ Some first → c ≡ Some circuit
    → size_of f c ≡ Some (record { place = first.place; target = first.target; extra = first.extra; circuit = circuit })
size_same f c first circuit one two = rw (one, two) refl

size_range : (net : NetLists) (f : Option FirstWords) (c : Option (List PlaceId)) → IfSome c (AreInRange net) → IfSome (size_of f c) (λ (told : SizeWords). AreInRange net told.circuit)
size_range net None c h = tt
size_range net (Some first) None h = tt
size_range net (Some first) (Some circuit) h = h

pub size_read : (net : NetLists) (text : List ℕ) (lines : List (List ℕ)) (f : Option FirstWords) (c : Option (List PlaceId)) → IsNet net → IsTextOf text (map phrase lines)
    → ReadsFirst net (phrase (slice_index_or lines 0 [])) f → ReadsSecond net lines c → ReadsSize net text (size_of f c)
size_read net text lines f c ok read first second = record {
  in_range = size_range net f c second.in_range;
  alone = λ place target extra asked small is.
      (let at = line_read text lines (enough_words net place target extra ∷ []) read (one_line (enough_words net place target extra) (enough_is_line net place target extra ok asked)) is in
      size_same f c (record { place = place; target = target; extra = Some extra }) [] (first.enough place target extra asked small (at.1 0 (omega arith))) (second.empty (omega (arith, at.0))));
  enough = λ place target extra circuit asked small range is.
      (let at = line_read text lines (enough_words net place target extra ∷ circuit_line net circuit ∷ []) read
      (two_lines (enough_words net place target extra) (circuit_line net circuit) (enough_is_line net place target extra ok asked) (circuit_is_line net circuit ok range)) is in
      size_same f c (record { place = place; target = target; extra = Some extra }) circuit (first.enough place target extra asked small (at.1 0 (omega arith)))
      (second.told (omega (arith, at.0)) circuit range (at.1 1 (omega arith))));
  impossible = λ place target circuit asked range is.
      (let at = line_read text lines (impossible_words net place target ∷ circuit_line net circuit ∷ []) read
      (two_lines (impossible_words net place target) (circuit_line net circuit) (impossible_is_line net place target ok asked) (circuit_is_line net circuit ok range)) is in
      size_same f c (record { place = place; target = target; extra = None }) circuit (first.impossible place target asked (at.1 0 (omega arith)))
      (second.told (omega (arith, at.0)) circuit range (at.1 1 (omega arith))));
}

-- a text of no lines of words
pub no_lines_read : (net : NetLists) (text : List ℕ) → IsNet net → ((lines : List (List (List ℕ))) → IsTextOf text lines → ⊥) → ReadsSize net text None
no_lines_read net text ok none = record {
  in_range = tt;
  alone = λ place target extra asked small is.
      absurd (none (enough_words net place target extra ∷ []) (record { are = one_line (enough_words net place target extra) (enough_is_line net place target extra ok asked); told = is }));
  enough = λ place target extra circuit asked small range is.
      absurd (none (enough_words net place target extra ∷ circuit_line net circuit ∷ [])
      (record { are = two_lines (enough_words net place target extra) (circuit_line net circuit) (enough_is_line net place target extra ok asked) (circuit_is_line net circuit ok range); told = is }));
  impossible = λ place target circuit asked range is.
      absurd (none (impossible_words net place target ∷ circuit_line net circuit ∷ [])
      (record { are = two_lines (impossible_words net place target) (circuit_line net circuit) (impossible_is_line net place target ok asked) (circuit_is_line net circuit ok range); told = is }));
}

-- ---- what is told is what was read

-- the text was read as this, and it tells it with the circuit that was read
abbrev pub IsToldAs : NetLists → List ℕ → SizeWords → ShownSize → Type 0
IsToldAs net text told (Enough place target extra) =
    (told.place ≡ place) × (told.target ≡ target) × (told.extra ≡ Some extra) × TellsEnoughBy net text place target extra told.circuit × IsEnough net target place extra
IsToldAs net text told (Impossible place target) = (told.place ≡ place) × (told.target ≡ target) × (told.extra ≡ None) × TellsImpossibleBy net text place target told.circuit

circuit_in : (net : NetLists) (ps : List PlaceId) → IsCircuit net ps → AreInRange net ps
circuit_in net ps c = IsPathBetween-in_range net ps c.closed.0 c.closed.0 c.closed.1

-- what is shown was read
pub shown_is_read : (net : NetLists) (text : List ℕ) (read : Option SizeWords) (shown : ShownSize) → IsNet net → ReadsSize net text read → IsShownSize net text shown
    → (told : SizeWords) × (read ≡ Some told) × IsToldAs net text told shown
shown_is_read net text read (Enough place target extra) ok h (asked, (circuit, tells), enough, fewest) =
    ⊎_elim
    (λ (none : (extra ≡ 0) × (text ≡ written (enough_words net place target extra ∷ []))). (
      record { place = place; target = target; extra = Some extra; circuit = [] },
      h.alone place target extra asked (let zero_is = none.0 in omega (arith, zero_is)) none.1,
      (refl, refl, refl, inl none, enough),
    ))
    (λ (some : (1 ≤ extra) × IsStillAbove net target place (extra - 1) circuit × (text ≡ written (enough_words net place target extra ∷ circuit_line net circuit ∷ []))). (
      record { place = place; target = target; extra = Some extra; circuit = circuit },
      h.enough place target extra circuit asked (extra_small net target place extra circuit ok asked.within enough some.0 some.1) (circuit_in net circuit some.1.circuit) some.2,
      (refl, refl, refl, inr some, enough),
    ))
    tells
shown_is_read net text read (Impossible place target) ok h (asked, (circuit, tells), none) = (
  record { place = place; target = target; extra = None; circuit = circuit },
  h.impossible place target circuit asked (circuit_in net circuit tells.0.circuit) tells.1,
  (refl, refl, refl, tells),
)

-- what is told with such a circuit is at most what is enough
pub tells_fewest : (net : NetLists) (text : List ℕ) (place : PlaceId) (target : Fraction) (extra : ℕ) (circuit : List PlaceId) → TellsEnoughBy net text place target extra circuit
    → IsAtMostEnough net target place extra
tells_fewest net text place target extra circuit tells d enough =
    ⊎_elim
    (λ (none : (extra ≡ 0) × (text ≡ written (enough_words net place target extra ∷ []))). (let zero_is = none.0 in omega (arith, zero_is)))
    (λ (some : (1 ≤ extra) × IsStillAbove net target place (extra - 1) circuit × (text ≡ written (enough_words net place target extra ∷ circuit_line net circuit ∷ []))).
    (let more = still_above net target place (extra - 1) circuit some.1 d enough in omega (arith, more)))
    tells

told_same : (a b : SizeWords) → Some a ≡ Some b → a ≡ b
told_same a b e = (cc)

-- a number that was read and is not shown is not told
none_enough : (net : NetLists) (text : List ℕ) (told : SizeWords) (extra : ℕ) → told.extra ≡ Some extra
    → (TellsEnoughBy net text told.place told.target extra told.circuit → IsEnough net told.target told.place extra → ⊥) → (shown : ShownSize) → IsToldAs net text told shown → ⊥
none_enough net text told extra is none (Enough place target n) (p, t, e, tells, enough) =
    let same : extra ≡ n = (cc) in
    none (rw (p, t, same) tells) (rw (p, t, same) enough)
none_enough net text told extra is none (Impossible place target) (p, t, e, tells) = (cc)

none_impossible : (net : NetLists) (text : List ℕ) (told : SizeWords) → told.extra ≡ None → (TellsImpossibleBy net text told.place told.target told.circuit → ⊥) → (shown : ShownSize)
    → IsToldAs net text told shown → ⊥
none_impossible net text told is none (Enough place target n) (p, t, e, tells, enough) = (cc)
none_impossible net text told is none (Impossible place target) (p, t, e, tells) = none (rw (p, t) tells)

-- what is shown is told as it was read
read_as : (net : NetLists) (text : List ℕ) (told : SizeWords) (shown : ShownSize) → IsNet net → ReadsSize net text (Some told) → IsShownSize net text shown → IsToldAs net text told shown
read_as net text told shown ok h is =
    let read = shown_is_read net text (Some told) shown ok h is in
    subst (λ (words : SizeWords). IsToldAs net text words shown) (sym (told_same told read.0 read.1)) read.2

pub enough_only : (net : NetLists) (text : List ℕ) (told : SizeWords) (extra : ℕ) (found : Option ShownSize) → IsNet net → ReadsSize net text (Some told) → told.extra ≡ Some extra
    → ShowsEnoughBy net text told.place told.target extra told.circuit found → ShowsSize net text found
enough_only net text told extra None ok read is none = λ shown h. none_enough net text told extra is none shown (read_as net text told shown ok read h)
enough_only net text told extra (Some shown) ok read is h = h

pub impossible_only : (net : NetLists) (text : List ℕ) (told : SizeWords) (found : Option ShownSize) → IsNet net → ReadsSize net text (Some told) → told.extra ≡ None
    → ShowsImpossibleBy net text told.place told.target told.circuit found → ShowsSize net text found
impossible_only net text told None ok read is none = λ shown h. none_impossible net text told is none shown (read_as net text told shown ok read h)
impossible_only net text told (Some shown) ok read is h = h

-- a text of which nothing is read shows nothing
pub nothing_shown : (net : NetLists) (text : List ℕ) → IsNet net → ReadsSize net text None → ShowsSize net text None
nothing_shown net text ok h shown is = let read = shown_is_read net text None shown ok h is in let same = read.1 in (cc)

asked_told : (net : NetLists) (text : List ℕ) (told : SizeWords) (shown : ShownSize) → IsShownSize net text shown → IsToldAs net text told shown → IsAskedSize net told.place told.target
asked_told net text told (Enough place target n) h (p, t, e, tells, enough) = rw (p, t) h.0
asked_told net text told (Impossible place target) h (p, t, e, tells) = rw (p, t) h.0

-- nor does one of a place or a target that may not be asked
pub not_asked : (net : NetLists) (text : List ℕ) (told : SizeWords) → IsNet net → ReadsSize net text (Some told) → (IsAskedSize net told.place told.target → ⊥) → ShowsSize net text None
not_asked net text told ok read other shown h = other (asked_told net text told shown h (read_as net text told shown ok read h))
