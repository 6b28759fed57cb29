-- The ratio of a circuit as a line in a holding time, and where it is the greatest.
use Rattle.std.proofs.Common.{ℕ, ◌+◌, ◌-◌, ◌*◌, ◌<◌, ◌≤◌, ◌≡◌, List, [], ◌∷◌, true, false, eqb, length, refl, sym, ap, subst, ◌∙◌, arith, ⊎_elim, Some}
use Rattle.std.specs.Prelude.{◌==◌, if◌then◌else◌}
use Rattle.std.proofs.lemmas.Bool.{cases_lt, cases_eq, eq-eqb, ne_eqb}
use Rattle.std.proofs.lemmas.Grind.{get_or-set_at}
use Rattle.std.proofs.lemmas.List.{get_or-set_other}
use Rattle.std.proofs.lemmas.List.Sums.{sum_by-cons}
use Rattle.std.proofs.Math.Nat.{mul-le-mul_right, le_of_mul-le-mul_left}
use Rattle.teg_net.specs.declared.entries.PlaceId.{PlaceId}
use Rattle.teg_net.specs.declared.circuits.Circuit.{Circuit}
use Rattle.teg_net.specs.Changes.{place_with_hold, with_hold}
use Rattle.teg_net.specs.Circuits.{no_place, place_at, IsCircuit, time_of, tokens_of}
use Rattle.teg_net.specs.GreatestRatios.{IsGreatestRatio, IsAnyPlace}
use Rattle.teg_net.specs.Nets.{NetLists}
use Rattle.teg_net.specs.Ratios.{Fraction}
use Rattle.teg_net.proofs.Changing.{holds_keep_circuits}
use Rattle.pace_calls.specs.declared.paces.PaceWithCircuit.{PaceWithCircuit}
use Rattle.pace_calls.specs.Paces.{IsPaceWithCircuit}
use Rattle.pace_pieces.specs.declared.lines.Line.{Line}
use Rattle.pace_pieces.specs.declared.pieces.Piece.{Piece}
use Rattle.pace_pieces.specs.Pieces.{rest_of, passes_of, ratio_at, IsLineOf, IsBestAt, IsPieceOf}

-- ---- the time of places

pub hold_here :
    (net : NetLists) (place : PlaceId) (h : ℕ) (p : PlaceId) → place.index < length net.places → p.index ≡ place.index
    → (place_at (with_hold net place h) p).hold ≡ h
hold_here net place h p l e = ap (λ q. q.hold) (get_or-set_at net.places place.index p.index (place_with_hold h (place_at net place)) no_place e l)

pub hold_apart :
    (net : NetLists) (place : PlaceId) (h : ℕ) (p : PlaceId) → (p.index ≡ place.index → ⊥) → (place_at (with_hold net place h) p).hold ≡ (place_at net p).hold
hold_apart net place h p other = ap (λ q. q.hold) (get_or-set_other net.places place.index p.index (place_with_hold h (place_at net place)) no_place other)

with_place_once : (time rest passes h t r p : ℕ) → t ≡ h + time → r ≡ 0 + rest → p ≡ 1 + passes → time ≡ rest + passes * h → t ≡ r + p * h
with_place_once time rest passes h t r p a b c old =
    let e : p * h ≡ (1 + passes) * h = ap (λ z. z * h) c in
    omega (arith, a, b, e, old)

with_another : (time rest passes h t r p hold : ℕ) → t ≡ hold + time → r ≡ hold + rest → p ≡ 0 + passes → time ≡ rest + passes * h → t ≡ r + p * h
with_another time rest passes h t r p hold a b c old =
    let e : p * h ≡ (0 + passes) * h = ap (λ z. z * h) c in
    omega (arith, a, b, e, old)

-- the time is a line in the holding time of a place
pub time_by :
    (net : NetLists) (place : PlaceId) (h : ℕ) (ps : List PlaceId) → place.index < length net.places
    → time_of (with_hold net place h) ps ≡ rest_of net place ps + passes_of place ps * h
time_by net place h [] l = omega arith
time_by net place h (p ∷ ps) l =
    let old = time_by net place h ps l in
    let t = sum_by-cons (λ q. (place_at (with_hold net place h) q).hold) p ps in
    let r = sum_by-cons (λ q. if q.index == place.index then 0 else (place_at net q).hold) p ps in
    let c = sum_by-cons (λ q. if q.index == place.index then 1 else 0) p ps in
    let time : ℕ = time_of (with_hold net place h) ps in
    let rest : ℕ = rest_of net place ps in
    let passes : ℕ = passes_of place ps in
    ⊎_elim
    (λ (e : p.index ≡ place.index).
    let b : eqb p.index place.index ≡ true = eq-eqb p.index place.index e in
    let own = hold_here net place h p l e in
    let none : (if p.index == place.index then 0 else (place_at net p).hold) ≡ 0 = rw b refl in
    let once : (if p.index == place.index then 1 else 0) ≡ 1 = rw b refl in
    with_place_once time rest passes h (time_of (with_hold net place h) (p ∷ ps)) (rest_of net place (p ∷ ps)) (passes_of place (p ∷ ps))
    (t ∙ ap (λ z. z + time) own) (r ∙ ap (λ z. z + rest) none) (c ∙ ap (λ z. z + passes) once) old)
    (λ (other : p.index ≡ place.index → ⊥).
    let b : eqb p.index place.index ≡ false = ne_eqb p.index place.index other in
    let own = hold_apart net place h p other in
    let same : (if p.index == place.index then 0 else (place_at net p).hold) ≡ (place_at net p).hold = rw b refl in
    let none : (if p.index == place.index then 1 else 0) ≡ 0 = rw b refl in
    with_another time rest passes h (time_of (with_hold net place h) (p ∷ ps)) (rest_of net place (p ∷ ps)) (passes_of place (p ∷ ps)) (place_at net p).hold
    (t ∙ ap (λ z. z + time) own) (r ∙ ap (λ z. z + rest) same) (c ∙ ap (λ z. z + passes) none) old)
    (cases_eq p.index place.index)

-- ---- greatest ratios

through : (t k a b c d : ℕ) → 1 ≤ b → t * b ≤ a * k → a * d ≤ c * b → t * d ≤ c * k
through t k a b c d some h l =
    let one : t * b * d ≤ a * k * d = mul-le-mul_right d h in
    let two : a * d * k ≤ c * b * k = mul-le-mul_right k l in
    let both : b * (t * d) ≤ b * (c * k) = omega (arith, one, two) in
    le_of_mul-le-mul_left both some

-- a circuit whose ratio is at least the greatest has the greatest
pub taken_up :
    (net : NetLists) (r s : Fraction) (ps : List PlaceId) → IsGreatestRatio net IsAnyPlace r → IsCircuit net ps → 1 ≤ tokens_of net ps → 1 ≤ s.tokens
    → time_of net ps * s.tokens ≡ s.time * tokens_of net ps → r.time * s.tokens ≤ s.time * r.tokens → IsGreatestRatio net IsAnyPlace s
taken_up net r s ps g c some one is more = record {
  some = one;
  attained = (ps, c, (λ i d l. tt), is);
  token = some;
  greatest = λ qs d inside. through (time_of net qs) (tokens_of net qs) r.time r.tokens s.time s.tokens g.some (g.greatest qs d inside) more;
}

product_of : (a b c d : ℕ) → a ≡ c → d ≡ b → a * b ≡ c * d
product_of a b c d e f = cc (e, f)

-- a line that is at least the greatest ratio tells it
pub line_reaches :
    (net : NetLists) (place : PlaceId) (hold : ℕ) (l : Line) (r : Fraction) → IsLineOf net place l → IsGreatestRatio (with_hold net place hold) IsAnyPlace r
    → r.time * l.tokens ≤ (l.base + l.passes * hold) * r.tokens → IsBestAt net place hold l
line_reaches net place hold l r is g more =
    let ps : List PlaceId = l.circuit.places.items in
    let kept = holds_keep_circuits net place hold ps in
    let tokens : tokens_of (with_hold net place hold) ps ≡ l.tokens = kept.1 ∙ is.tokens in
    let some = is.short.some in
    record {
      line = is;
      greatest = taken_up (with_hold net place hold) r (ratio_at l hold) ps g (kept.0.1 is.circuit) (omega (arith, tokens, some)) some
          (product_of (time_of (with_hold net place hold) ps) l.tokens (l.base + l.passes * hold) (tokens_of (with_hold net place hold) ps) (is.time hold) tokens) more;
    }

le_of_eq : (a b : ℕ) → a ≡ b → a ≤ b
le_of_eq a b e = omega (arith, e)

-- a circuit that has the greatest ratio tells its line
pub line_of_pace :
    (net : NetLists) (place : PlaceId) (hold : ℕ) (l : Line) (r : Fraction) → IsLineOf net place l → IsGreatestRatio (with_hold net place hold) IsAnyPlace r
    → time_of (with_hold net place hold) l.circuit.places.items * r.tokens ≡ r.time * tokens_of (with_hold net place hold) l.circuit.places.items
    → IsBestAt net place hold l
line_of_pace net place hold l r is g attains =
    let ps : List PlaceId = l.circuit.places.items in
    let tokens : tokens_of (with_hold net place hold) ps ≡ l.tokens = (holds_keep_circuits net place hold ps).1 ∙ is.tokens in
    let one : r.time * tokens_of (with_hold net place hold) ps ≡ r.time * l.tokens = ap (λ z. r.time * z) tokens in
    let two : time_of (with_hold net place hold) ps * r.tokens ≡ (l.base + l.passes * hold) * r.tokens = ap (λ z. z * r.tokens) (is.time hold) in
    let three : r.time * l.tokens ≡ (l.base + l.passes * hold) * r.tokens = sym one ∙ (sym attains ∙ two) in
    line_reaches net place hold l r is g (le_of_eq (r.time * l.tokens) ((l.base + l.passes * hold) * r.tokens) three)

-- and so does one that the pace comes with
pub best_found :
    (net : NetLists) (place : PlaceId) (hold : ℕ) (l : Line) (found : PaceWithCircuit) → IsLineOf net place l → l.circuit ≡ found.bottleneck
    → IsPaceWithCircuit (with_hold net place hold) (Some found) → IsBestAt net place hold l
best_found net place hold l found is same (g, own) = line_of_pace net place hold l found.ratio is g
    (subst
    (λ (z : Circuit). time_of (with_hold net place hold) z.places.items * found.ratio.tokens ≡ found.ratio.time * tokens_of (with_hold net place hold) z.places.items)
    (sym same) own.1)

-- a line that is at least another which is the greatest ratio is it too
pub best_reaches :
    (net : NetLists) (place : PlaceId) (hold : ℕ) (l other : Line) → IsLineOf net place l → IsBestAt net place hold other
    → (other.base + other.passes * hold) * l.tokens ≤ (l.base + l.passes * hold) * other.tokens → IsBestAt net place hold l
best_reaches net place hold l other is b more = line_reaches net place hold l (ratio_at other hold) is b.greatest more

-- ---- between two holding times

numbers_between : (rest n b k t m low d e : ℕ)
    → (rest + n * low) * m ≤ (b + k * low) * t → (rest + n * (low + d + e)) * m ≤ (b + k * (low + d + e)) * t → (rest + n * (low + d)) * m ≤ (b + k * (low + d)) * t
numbers_between rest n b k t m low d e first last = ⊎_elim
    (λ (l : k * t < n * m). let more : k * t * e ≤ n * m * e = mul-le-mul_right e (omega (arith, l)) in omega (arith, last, more))
    (λ (g : n * m ≤ k * t). let more : n * m * d ≤ k * t * d = mul-le-mul_right d g in omega (arith, first, more))
    (cases_lt (k * t) (n * m))

by_ends : (rest n b k t m low high h : ℕ) → low ≤ h → h ≤ high
    → (rest + n * low) * m ≤ (b + k * low) * t → (rest + n * high) * m ≤ (b + k * high) * t → (rest + n * h) * m ≤ (b + k * h) * t
by_ends rest n b k t m low high h above below first last =
    let one : low + (h - low) ≡ h = omega (arith, above) in
    let two : low + (h - low) + (high - h) ≡ high = omega (arith, above, below) in
    let there = numbers_between rest n b k t m low (h - low) (high - h) first (rw two last) in
    rw one at there

le_forth : (a b c d : ℕ) → a ≡ b → c ≡ d → a ≤ c → b ≤ d
le_forth a b c d e f g = omega (arith, e, f, g)

le_back : (a b c d : ℕ) → a ≡ b → c ≡ d → b ≤ d → a ≤ c
le_back a b c d e f g = omega (arith, e, f, g)

-- a circuit that has the greatest ratio at both ends of a range has it between
pub between :
    (net : NetLists) (place : PlaceId) (l : Line) (low high h : ℕ) → place.index < length net.places → IsBestAt net place low l → IsBestAt net place high l
    → low ≤ h → h ≤ high → IsGreatestRatio (with_hold net place h) IsAnyPlace (ratio_at l h)
between net place l low high h in' first last above below =
    let is = first.line in
    let ps : List PlaceId = l.circuit.places.items in
    let kept = holds_keep_circuits net place h ps in
    let tokens : tokens_of (with_hold net place h) ps ≡ l.tokens = kept.1 ∙ is.tokens in
    let some = is.short.some in
    record {
      some = some;
      attained = (ps, kept.0.1 is.circuit, (λ i d m. tt), product_of (time_of (with_hold net place h) ps) l.tokens (l.base + l.passes * h) (tokens_of (with_hold net place h) ps) (is.time h) tokens);
      token = omega (arith, tokens, some);
      greatest = λ qs d inside. at_most qs d;
    } where
      by_end : (k : ℕ) (qs : List PlaceId) → IsCircuit (with_hold net place h) qs → IsBestAt net place k l
          → (rest_of net place qs + passes_of place qs * k) * l.tokens ≤ (l.base + l.passes * k) * tokens_of net qs
      by_end k qs d b =
          let there = holds_keep_circuits net place k qs in
          let here = holds_keep_circuits net place h qs in
          let up = b.greatest.greatest qs (there.0.1 (here.0.0 d)) (λ i e m. tt) in
          le_forth (time_of (with_hold net place k) qs * l.tokens) ((rest_of net place qs + passes_of place qs * k) * l.tokens)
          ((l.base + l.passes * k) * tokens_of (with_hold net place k) qs) ((l.base + l.passes * k) * tokens_of net qs)
          (ap (λ z. z * l.tokens) (time_by net place k qs in')) (ap (λ z. (l.base + l.passes * k) * z) there.1) up

      at_most : (qs : List PlaceId) → IsCircuit (with_hold net place h) qs → time_of (with_hold net place h) qs * l.tokens ≤ (l.base + l.passes * h) * tokens_of (with_hold net place h) qs
      at_most qs d =
          let mid = by_ends (rest_of net place qs) (passes_of place qs) l.base l.passes (tokens_of net qs) l.tokens low high h above below (by_end low qs d first) (by_end high qs d last) in
          le_back (time_of (with_hold net place h) qs * l.tokens) ((rest_of net place qs + passes_of place qs * h) * l.tokens)
          ((l.base + l.passes * h) * tokens_of (with_hold net place h) qs) ((l.base + l.passes * h) * tokens_of net qs)
          (ap (λ z. z * l.tokens) (time_by net place h qs in')) (ap (λ z. (l.base + l.passes * h) * z) (holds_keep_circuits net place h qs).1) mid

-- so the range is a piece of its line
pub piece_of :
    (net : NetLists) (place : PlaceId) (from to : ℕ) (l : Line) → place.index < length net.places → IsBestAt net place from l → IsBestAt net place to l
    → IsPieceOf net place (record { from = from; to = to; line = l })
piece_of net place from to l in' first last = record { line = first.line; greatest = λ h above below. between net place l from to h in' first last above below }

-- and a piece goes on up to where its line is at least the next
pub longer :
    (net : NetLists) (place : PlaceId) (last next : Piece) → place.index < length net.places → IsPieceOf net place last → IsPieceOf net place next
    → last.from ≤ last.to → next.from ≤ next.to
    → (next.line.base + next.line.passes * next.to) * last.line.tokens ≤ (last.line.base + last.line.passes * next.to) * next.line.tokens
    → IsPieceOf net place (record { from = last.from; to = next.to; line = last.line })
longer net place last next in' h k l m more = piece_of net place last.from next.to last.line in'
    (record { line = h.line; greatest = h.greatest last.from (omega arith) l })
    (best_reaches net place next.to last.line next.line h.line (record { line = k.line; greatest = k.greatest next.to m (omega arith) }) more)
