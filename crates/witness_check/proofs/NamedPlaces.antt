-- Names behind blanks are read back, and so is the word of a ratio.
use Rattle.std.proofs.Common.{ℕ, zero, suc, ◌+◌, ◌<◌, ◌≤◌, ◌≡◌, ◌≢◌, ◌==◌, ◌↔◌, nat_le, true, false, not, Option, Some, None, IfSome, List, [], ◌∷◌, ◌++◌, length, map, take, drop, get_or, refl, sym, ap, ◌∙◌, arith, leb-true, ne_eqb, decimal, codes}
use Rattle.std.specs.Prelude.{All}
use Rattle.std.specs.List.{list_all, position_or_len, before_first, after_first, slice_get}
use Rattle.std.specs.Option.{IsSomeAnd}
use Rattle.std.proofs.lemmas.Bool.{and_parts, not-true}
use Rattle.std.proofs.lemmas.Grind.{take_at_read}
use Rattle.std.proofs.lemmas.List.{append_cancel_left, append_cancel_right, get_or-map, length-append, length-map, map-append, take_at}
use Rattle.std.proofs.lemmas.List.Elements.{All-head, All-tail, All-append}
use Rattle.std.proofs.lemmas.List.Sums.{position_or_len_is}
use Rattle.std.proofs.lemmas.Option.{get_or_from_slice_get, slice_get_within}
use Rattle.teg_net.specs.declared.entries.Place.{Place}
use Rattle.teg_net.specs.declared.entries.PlaceId.{PlaceId}
use Rattle.teg_net.specs.Circuits.{AreInRange, IsCircuit, no_place}
use Rattle.teg_net.specs.Nets.{NetLists, IsNet}
use Rattle.teg_net.specs.Ratios.{Fraction, IsLowestTerms, IsRatioOf}
use Rattle.teg_net.proofs.PathLaws.{IsPathBetween-in_range}
use Rattle.teg_net.proofs.RatioOrdering.{one_ratio}
use Rattle.teg_text.specs.Lines.{is_word, is_word_byte, phrase, byte_before}
use Rattle.teg_text.specs.ValueWords.{ratio_word}
use Rattle.teg_text.specs.WordReading.{is_digit, phrase_in}
use Rattle.teg_text.specs.WordsOfNames.{name_of_place, place_named}
use Rattle.teg_text.proofs.Joining.{phrase_some}
use Rattle.teg_text.proofs.NamesRead.{circuits, place_back, place_is_word}
use Rattle.teg_text.proofs.Phrases.{phrase_back}
use Rattle.teg_text.proofs.Words.{decimal_is_numeral, from_numeral}
use Rattle.witness_check.specs.Liveness.{deadlock_text}
use Rattle.witness_check.specs.NamedPlaces.{AreNamed, AreNamedBy, NamesEach, NamesPlaces, names_behind_blanks}

-- ---- phrases of names

not_blank : (byte : ℕ) → is_word_byte byte ≡ true → (byte == 32) ≡ false
not_blank byte h = not-true (byte == 32) (and_parts (not (byte == 32)) (not (byte == 10)) h).0

-- a word before a phrase that begins with a blank, or is empty
phrase_word : (word tail : List ℕ) (others : List (List ℕ)) → is_word word ≡ true → phrase tail ≡ [] ∷ others → phrase (word ++ tail) ≡ word ∷ others
phrase_word [] tail others h is = is
phrase_word (byte ∷ word) tail others h is =
    let both = and_parts (is_word_byte byte) (is_word word) h in
    rw (not_blank byte both.0) (ap (byte_before byte) (phrase_word word tail others both.1 is))

pub phrase_of_names : (net : NetLists) (ps : List PlaceId) → IsNet net → AreInRange net ps → phrase (names_behind_blanks net ps) ≡ [] ∷ map (name_of_place net) ps
phrase_of_names net [] ok h = refl
phrase_of_names net (p ∷ ps) ok h =
    let here : p.index < length net.places = All-head (λ (q : PlaceId). q.index < length net.places) p ps h in
    let rest = phrase_of_names net ps ok (All-tail (λ (q : PlaceId). q.index < length net.places) p ps h) in
    ap (λ (ws : List (List ℕ)). [] ∷ ws) (phrase_word (name_of_place net p) (names_behind_blanks net ps) (map (name_of_place net) ps) (place_is_word net p ok here) rest)

-- names that are the words behind the first, which is empty
pub names_told : (net : NetLists) (text : List ℕ) (names : List (List ℕ)) (ps : List PlaceId) → IsNet net → phrase text ≡ [] ∷ names → AreNamed net names ps → AreNamedBy net text ps
names_told net text names ps ok is h = record {
  in_range = h.in_range;
  told =
      sym (phrase_back text) ∙ (ap phrase_in (is ∙ (ap (λ (ws : List (List ℕ)). [] ∷ ws) (sym h.told) ∙ sym (phrase_of_names net ps ok h.in_range)))
      ∙ phrase_back (names_behind_blanks net ps));
}

pub words_of_names : (net : NetLists) (text : List ℕ) (ps : List PlaceId) → IsNet net → AreNamedBy net text ps → phrase text ≡ [] ∷ map (name_of_place net) ps
words_of_names net text ps ok h = ap phrase h.told ∙ phrase_of_names net ps ok h.in_range

-- ---- names one by one

-- a place of that name
named_here : (net : NetLists) (id : PlaceId) (word : List ℕ) → IsSomeAnd (slice_get net.places id.index) (λ (p : Place). p.name ≡ word) → (id.index < length net.places) × (name_of_place net id ≡ word)
named_here net id word h = by_cases (slice_get net.places id.index) refl h where
  by_cases : (o : Option Place) → slice_get net.places id.index ≡ o → IsSomeAnd o (λ (p : Place). p.name ≡ word) → (id.index < length net.places) × (name_of_place net id ≡ word)
  by_cases None e k = absurd k
  by_cases (Some place) e k = (
    slice_get_within net.places id.index place e,
    ap (λ (p : Place). p.name) (get_or_from_slice_get net.places id.index place no_place e) ∙ k,
  )

-- of a name there is one place
pub one_place : (net : NetLists) (p q : PlaceId) → IsNet net → p.index < length net.places → q.index < length net.places → name_of_place net p ≡ name_of_place net q → p ≡ q
one_place net p q ok l m e = sym (place_back net p ok l) ∙ (ap (place_named net) e ∙ place_back net q ok m)

-- the place of this name is found
pub place_found : (net : NetLists) (p : PlaceId) (word : List ℕ) (found : Option PlaceId) → IsNet net → p.index < length net.places → word ≡ name_of_place net p
    → (found ≡ None) ↔ All (λ (x : Place). x.name ≢ word) net.places → IfSome found (λ id. IsSomeAnd (slice_get net.places id.index) (λ (x : Place). x.name ≡ word)) → found ≡ Some p
place_found net p word None ok l is none some = absurd (none.0 refl p.index no_place l (sym is))
place_found net p word (Some id) ok l is none some =
    let here = named_here net id word some in
    ap Some (one_place net id p ok here.0 l (here.1 ∙ is))

-- one more name
pub named_more : (net : NetLists) (names : List (List ℕ)) (n : ℕ) (ps : List PlaceId) (id : PlaceId) (name : List ℕ) → n < length names → get_or names n [] ≡ name
    → IsSomeAnd (slice_get net.places id.index) (λ (x : Place). x.name ≡ name) → AreNamed net (take n names) ps → AreNamed net (take (n + 1) names) (ps ++ id ∷ [])
named_more net names n ps id name l at some h =
    let here = named_here net id name some in
    record {
      in_range = All-append (λ (q : PlaceId). q.index < length net.places) ps (id ∷ []) h.in_range (one_all net id here.0);
      told =
          map-append (name_of_place net) ps (id ∷ [])
          ∙ (ap (λ (ws : List (List ℕ)). ws ++ name_of_place net id ∷ []) h.told
          ∙ (ap (λ (w : List ℕ). take n names ++ w ∷ []) (here.1 ∙ sym at) ∙ sym (take_at_read names n [] l).1));
    } where
      one_all : (net : NetLists) (id : PlaceId) → id.index < length net.places → All (λ (q : PlaceId). q.index < length net.places) (id ∷ [])
      one_all net id l zero d m = l
      one_all net id l (suc i) d m = absurd (omega (arith, m))

-- a name that no place has
pub none_named : (net : NetLists) (names : List (List ℕ)) (n : ℕ) (name : List ℕ) → n < length names → get_or names n [] ≡ name → All (λ (x : Place). x.name ≢ name) net.places
    → (ps : List PlaceId) → AreNamed net names ps → ⊥
none_named net names n name l at none ps h =
    let long : length ps ≡ length names = sym (length-map ps (name_of_place net)) ∙ ap (λ (ws : List (List ℕ)). length ws) h.told in
    let low : n < length ps = omega (arith, l, long) in
    let p : PlaceId = get_or ps n (record { index = 0 }) in
    let is : name_of_place net p ≡ name = sym (get_or-map (name_of_place net) ps n (record { index = 0 }) [] low) ∙ (ap (λ (ws : List (List ℕ)). get_or ws n []) h.told ∙ at) in
    none p.index no_place (h.in_range n (record { index = 0 }) low) is

-- names of places of a net tell the places
pub same_named : (net : NetLists) (names : List (List ℕ)) (ps qs : List PlaceId) → IsNet net → AreNamed net names ps → AreNamed net names qs → ps ≡ qs
same_named net names ps qs ok one two =
    sym ((circuits net ok).back ps one.in_range) ∙ (ap (map (place_named net)) (one.told ∙ sym two.told) ∙ (circuits net ok).back qs two.in_range)

-- what the names behind the first word name is what the text names, where that word is empty
pub named_of_each : (net : NetLists) (text : List ℕ) (names : List (List ℕ)) (found : Option (List PlaceId)) → IsNet net → phrase text ≡ [] ∷ names → NamesEach net names found → NamesPlaces net text found
named_of_each net text names None ok is none =
    λ ps h. none ps (record { in_range = h.in_range; told = ap (λ (ws : List (List ℕ)). drop 1 ws) (sym (words_of_names net text ps ok h) ∙ is) })
named_of_each net text names (Some ps) ok is h = names_told net text names ps ok is h

-- a text names one list of places
pub one_named : (net : NetLists) (text : List ℕ) (ps qs : List PlaceId) → IsNet net → AreNamedBy net text ps → AreNamedBy net text qs → ps ≡ qs
one_named net text ps qs ok one two =
    same_named net (map (name_of_place net) qs) ps qs ok
    (record { in_range = one.in_range; told = ap (λ (ws : List (List ℕ)). drop 1 ws) (sym (words_of_names net text ps ok one) ∙ words_of_names net text qs ok two) })
    (record { in_range = two.in_range; told = refl })

pub none_long : (word : List ℕ) → length word ≡ 0 → word ≡ []
none_long [] h = refl
none_long (byte ∷ word) h = absurd (omega (arith, h))

-- the phrase of a text whose first word is empty
pub empty_first : (text : List ℕ) → get_or (phrase text) 0 [] ≡ [] → phrase text ≡ [] ∷ drop 1 (phrase text)
empty_first text e = let some = phrase_some text in by_first some.0 some.1 some.2 where
  by_first : (word : List ℕ) (words : List (List ℕ)) → phrase text ≡ word ∷ words → phrase text ≡ [] ∷ drop 1 (phrase text)
  by_first word words is =
      let first : word ≡ [] = sym (ap (λ (ws : List (List ℕ)). get_or ws 0 []) is) ∙ e in
      is ∙ (ap (λ (w : List ℕ). w ∷ words) first ∙ ap (λ (ws : List (List ℕ)). [] ∷ drop 1 ws) (sym is))

pub behind_first : {A B : Type 0} (f : A → B) (xs : List A) → map f (drop 1 xs) ≡ drop 1 (map f xs)
behind_first f [] = refl
behind_first f (x ∷ xs) = refl

-- ---- a circuit without tokens

pub deadlock_told : (net : NetLists) (text words names : List ℕ) (ps : List PlaceId) → text ≡ codes "refused: token-free circuit" ++ words → words ≡ names ++ 10 ∷ [] → AreNamedBy net names ps
    → text ≡ deadlock_text net ps
deadlock_told net text words names ps first last h =
    first ∙ ap (λ (l : List ℕ). codes "refused: token-free circuit" ++ l) (last ∙ ap (λ (l : List ℕ). l ++ 10 ∷ []) h.told)

pub deadlock_named : (net : NetLists) (text words names : List ℕ) (ps : List PlaceId) → text ≡ codes "refused: token-free circuit" ++ words → words ≡ names ++ 10 ∷ [] → IsCircuit net ps
    → text ≡ deadlock_text net ps → AreNamedBy net names ps
deadlock_named net text words names ps first last circuit told =
    let behind : words ≡ names_behind_blanks net ps ++ 10 ∷ [] = append_cancel_left (codes "refused: token-free circuit") words (names_behind_blanks net ps ++ 10 ∷ []) (sym first ∙ told) in
    record {
      in_range = IsPathBetween-in_range net ps circuit.closed.0 circuit.closed.0 circuit.closed.1;
      told = append_cancel_right names (names_behind_blanks net ps) (10 ∷ []) (sym last ∙ behind);
    }

-- ---- ratios

digit_is_no_slash : (byte : ℕ) → is_digit byte ≡ true → (byte == 47) ≡ false
digit_is_no_slash byte h =
    let low : 48 ≤ byte = leb-true 48 byte (and_parts (nat_le 48 byte) (nat_le byte 57) h).0 in
    ne_eqb byte 47 (λ (e : byte ≡ 47). omega arith)

slash_at : (word rest : List ℕ) → list_all is_digit word ≡ true → (position_or_len (λ b. b == 47) (word ++ 47 ∷ rest) ≡ length word)
    × (before_first (λ b. b == 47) (word ++ 47 ∷ rest) ≡ word) × (after_first (λ b. b == 47) (word ++ 47 ∷ rest) ≡ rest)
slash_at word rest h = (at, ap (λ (n : ℕ). take n (word ++ 47 ∷ rest)) at ∙ take_at word (47 ∷ rest) (length word) refl, behind) where
  digit : (xs : List ℕ) (k : ℕ) → list_all is_digit xs ≡ true → k < length xs → (get_or (xs ++ 47 ∷ rest) k 0 == 47) ≡ false
  digit [] k e l = absurd (omega (arith, l))
  digit (x ∷ xs) zero e l = digit_is_no_slash x (and_parts (is_digit x) (list_all is_digit xs) e).0
  digit (x ∷ xs) (suc k) e l = digit xs k (and_parts (is_digit x) (list_all is_digit xs) e).1 (omega (arith, l))

  seam : (xs : List ℕ) → get_or (xs ++ 47 ∷ rest) (length xs) 0 ≡ 47
  seam [] = refl
  seam (x ∷ xs) = seam xs

  at : position_or_len (λ b. b == 47) (word ++ 47 ∷ rest) ≡ length word
  at =
      position_or_len_is (λ b. b == 47) (word ++ 47 ∷ rest) (length word) 0 (let long = length-append word (47 ∷ rest) in omega (arith, long))
      (λ k l. digit word k h l) (λ _. rw (seam word) refl)

  cut : (xs : List ℕ) → drop (length xs + 1) (xs ++ 47 ∷ rest) ≡ rest
  cut [] = refl
  cut (x ∷ xs) = let e : length (x ∷ xs) + 1 ≡ suc (length xs + 1) = omega arith in ap (λ (n : ℕ). drop n (x ∷ (xs ++ 47 ∷ rest))) e ∙ cut xs

  behind : after_first (λ b. b == 47) (word ++ 47 ∷ rest) ≡ rest
  behind = ap (λ (n : ℕ). drop (n + 1) (word ++ 47 ∷ rest)) at ∙ cut word

-- the parts of the word of a ratio round its slash
pub ratio_parts : (time tokens : ℕ) (word : List ℕ) → word ≡ ratio_word time tokens
    → (position_or_len (λ b. b == 47) word < length word) × (before_first (λ b. b == 47) word ≡ decimal time) × (after_first (λ b. b == 47) word ≡ decimal tokens)
ratio_parts time tokens word is =
    let h = slash_at (decimal time) (decimal tokens) (from_numeral (decimal time) (decimal_is_numeral time)) in
    let long = length-append (decimal time) (47 ∷ decimal tokens) in
    rw is (let at = h.0 in omega (arith, at, long), h.1, h.2)

-- of a time and tokens in lowest terms it is the ratio
pub own_ratio : (r s : Fraction) → IsLowestTerms r → IsRatioOf r.time r.tokens s → s ≡ r
own_ratio r s terms h = sym (one_ratio r s terms h.terms h.same)
