-- What each answer of `parse` rests on.
use Rattle.std.proofs.Common.{◌≡◌, refl, ap, sym, ◌∙◌, arith, ℕ, zero, suc, ◌+◌, ◌<◌, ◌≤◌, List, [], ◌∷◌, ◌++◌, length, get_or, take, map, Option, Some, None, Err, ⊎_elim}
use Rattle.std.specs.Prelude.{slice_get, option_and_then}
use Rattle.std.proofs.lemmas.Bool.{cases_lt}
use Rattle.std.proofs.lemmas.List.{take_more, take_all, length-map, length-reverse}
use Rattle.std.proofs.lemmas.Option.{get_or_from_slice_get, slice_get-get_or}
use Rattle.teg_calc.specs.ExpressionTrees.{Tree}
use Rattle.teg_calc.specs.Grammar.{IsBegun}
use Rattle.teg_calc.specs.ParseAnswers.{open_brackets, IsShallow, IsParsed, IsFault, IsFirstTooDeep, IsParseOf}
use Rattle.teg_calc.specs.declared.brackets.Bracket.{Bracket}
use Rattle.teg_calc.specs.declared.refusals.Stop.{Stop}
use Rattle.teg_calc.specs.declared.refusals.Stop.TheVariants.{Unexpected, TooDeep, OutOfMemory}
use Rattle.teg_calc.specs.Readers.{State, start, step, finish, level_of, levels_of, refused_at, OpensFew, GoesOnByByte, Finishes}
use Rattle.teg_calc.proofs.Runs.{runs_then, stops_then}
use Rattle.teg_calc.proofs.Accepting.{IsAccepted, accepted}
use Rattle.teg_calc.proofs.Completing.{begun_is, whole_is}
use Rattle.teg_calc.proofs.Depth.{read_depth}
use Rattle.teg_calc.proofs.TextRuns.{run}

one_step : (x : Option State) → option_and_then (λ n. Some n) x ≡ x
one_step None = refl
one_step (Some n) = refl

-- one byte more is read
pub next_run : (text : List ℕ) (at : ℕ) (s : State) (r : Option State) → at < length text → run start (take at text) ≡ Some s → step s (get_or text at 0) ≡ r → run start (take (at + 1) text) ≡ r
next_run text at s r h e g =
    ap (run start) (take_more text at 0 h) ∙ (runs_then (take at text) (get_or text at 0 ∷ []) start s e ∙ (one_step (step s (get_or text at 0)) ∙ g))

-- where the reader stops, no expression begins
not_begun : (text : List ℕ) → run start text ≡ None → IsBegun text → ⊥
not_begun text h b =
    let a : IsAccepted (text ++ b.rest) b.tree = accepted (text ++ b.rest) b.tree b.whole in
    let stop : run start (text ++ b.rest) ≡ None = stops_then text b.rest start h in
    let goes : run start (text ++ b.rest) ≡ Some a.target = a.runs in
    cc

-- a longer prefix goes on from a shorter one
record IsLonger (short long : List ℕ) : Type 0 where
  rest : List ℕ
  text_is : long ≡ short ++ rest

longer_take : (text : List ℕ) (n m : ℕ) → n ≤ m → IsLonger (take n text) (take m text)
longer_take text zero m h = record { rest = take m text; text_is = refl }
longer_take text (suc n) zero h = absurd (omega arith)
longer_take [] (suc n) (suc m) h = record { rest = []; text_is = refl }
longer_take (x ∷ xs) (suc n) (suc m) h =
    let l : IsLonger (take n xs) (take m xs) = longer_take xs n m (omega arith) in
    record { rest = l.rest; text_is = ap (λ (z : List ℕ). x ∷ z) l.text_is }

-- the reader stops at a byte
pub fault_at : (text : List ℕ) (at : ℕ) (s : State) → at < length text → run start (take at text) ≡ Some s → step s (get_or text at 0) ≡ None → IsShallow text at → IsFault text at
fault_at text at s h e g shallow =
    let stop : run start (take (at + 1) text) ≡ None = next_run text at s None h e g in
    let never : (m : ℕ) → at < m → run start (take m text) ≡ None = λ m k.
    let l : IsLonger (take (at + 1) text) (take m text) = longer_take text (at + 1) m (omega arith) in
    ap (run start) l.text_is ∙ stops_then (take (at + 1) text) l.rest start stop in
    record {
      none = λ tree x.
          let a : IsAccepted text tree = accepted text tree x in
          let whole : take (length text) text ≡ text = take_all (length text) text (omega arith) in
          let stopped : run start (take (length text) text) ≡ None = never (length text) h in
          let halt : run start text ≡ None = rw whole at stopped in
          let goes : run start text ≡ Some a.target = a.runs in
          cc;
      prefix = record { within = omega arith; begun = begun_is (take at text) s e; longest = λ m k w b. not_begun (take m text) (never m k) b };
      shallow = shallow;
    }

-- the text ends before an expression does
pub fault_at_end : (text : List ℕ) (s : State) → run start text ≡ Some s → finish s ≡ None → IsShallow text (length text) → IsFault text (length text)
fault_at_end text s e g shallow = record {
  none = λ tree x.
      let a : IsAccepted text tree = accepted text tree x in
      let goes : run start text ≡ Some a.target = a.runs in
      let same : s ≡ a.target = cc in
      let ends : finish a.target ≡ Some tree = a.finishes in
      let none : finish a.target ≡ None = rw (← same) g in
      cc;
  prefix = record {
    within = omega arith;
    begun = rw (take_all (length text) text (omega arith)) (begun_is text s e);
    longest = λ m k w b. omega arith;
  };
  shallow = shallow;
}

-- the text is read whole
pub parsed : (text : List ℕ) (s : State) (tree : Tree) → run start text ≡ Some s → finish s ≡ Some tree → IsShallow text (length text) → IsParsed text tree
parsed text s tree e g shallow = record { expression = whole_is text s tree e g; shallow = shallow }

byte_is : (text : List ℕ) (at b : ℕ) → slice_get text at ≡ Some b → get_or text at 0 ≡ b
byte_is text at b e = get_or_from_slice_get text at b 0 e

-- a bracket that the reader opens is not too deep
pub next_shallow : (text : List ℕ) (at : ℕ) (s : State) → run start (take at text) ≡ Some s → OpensFew (length s.outer) (get_or text at 0) → IsShallow text at → IsShallow text (at + 1)
next_shallow text at s e few shallow j low deep = ⊎_elim
    (λ (before : j < at). shallow j before deep)
    (λ (after : at ≤ j).
    let here : j ≡ at = omega arith in
    let byte : get_or text at 0 ≡ 40 = rw here at (byte_is text j 40 deep.bracket) in
    let depth : open_brackets (take at text) ≡ length s.outer = read_depth (take at text) s e in
    let many : 64 ≤ open_brackets (take at text) = rw here at deep.depth in
    let low : length s.outer < 64 = few byte in
    omega arith)
    (cases_lt j at)

-- a bracket that is opened too deep
pub deep_at : (text : List ℕ) (at : ℕ) (s n : State) → at < length text → run start (take at text) ≡ Some s → step s (get_or text at 0) ≡ Some n → get_or text at 0 ≡ 40 → 64 ≤ length s.outer
    → IsShallow text at → IsFirstTooDeep text at
deep_at text at s n h e g b many shallow = record {
  begun = begun_is (take (at + 1) text) n (next_run text at s (Some n) h e g);
  deep = record {
    bracket = slice_get-get_or text at 0 h ∙ ap (λ (z : ℕ). Some z) b;
    depth = let depth : open_brackets (take at text) ≡ length s.outer = read_depth (take at text) s e in omega arith;
  };
  first = shallow;
}

-- ---- the answers

-- the outer brackets of the state are as many as the reader's
pub levels_length : (brackets : List Bracket) → length (levels_of brackets) ≡ length brackets
levels_length brackets = length-reverse (map level_of brackets) ∙ length-map brackets level_of

-- what is told where the reader stops at a byte
pub told_at : (text : List ℕ) (at depth : ℕ) (s : State) (stop : Stop) → at < length text → run start (take at text) ≡ Some s → depth ≡ length s.outer
    → GoesOnByByte (step s (get_or text at 0)) depth (get_or text at 0) (Err stop) → IsShallow text at → IsParseOf text (Err (refused_at at stop))
told_at text at depth s Unexpected h e d g shallow = fault_at text at s h e g shallow
told_at text at depth s TooDeep h e d g shallow = deep_at text at s g.0 h e g.1 g.2 (let many : 64 ≤ depth = g.3 in omega arith) shallow
told_at text at depth s OutOfMemory h e d g shallow = tt

-- the text was read to its end
pub whole_read : (text : List ℕ) (at : ℕ) (s : State) → length text ≤ at → run start (take at text) ≡ Some s → run start text ≡ Some s
whole_read text at s h e = ap (run start) (sym (take_all at text h)) ∙ e

pub whole_shallow : (text : List ℕ) (at : ℕ) → length text ≤ at → IsShallow text at → IsShallow text (length text)
whole_shallow text at h shallow j low deep = shallow j (omega arith) deep

-- what is told where the text ends before an expression does
pub told_at_end : (text : List ℕ) (s : State) (stop : Stop) → run start text ≡ Some s → Finishes (finish s) (Err stop)
    → IsShallow text (length text) → IsParseOf text (Err (refused_at (length text) stop))
told_at_end text s Unexpected e g shallow = fault_at_end text s e g shallow
told_at_end text s TooDeep e g shallow = absurd g
told_at_end text s OutOfMemory e g shallow = tt
