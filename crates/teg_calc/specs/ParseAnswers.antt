-- What `parse` answers.
use Rattle.std.specs.Prelude.{◌≡◌, ℕ, ◌+◌, ◌-◌, ◌<◌, ◌≤◌, ◌==◌, List, length, take, slice_get, Result, Ok, Err, Some}
use Rattle.std.specs.List.{count_by}
use Rattle.teg_calc.specs.declared.expressions.Expr.{Expr}
use Rattle.teg_calc.specs.declared.refusals.ParseRefused.{ParseRefused}
use Rattle.teg_calc.specs.declared.refusals.ParseRefused.TheVariants.{Syntax, TooDeep, OutOfMemory}
use Rattle.teg_calc.specs.ExpressionTrees.{Tree, tree_of_expression}
use Rattle.teg_calc.specs.Grammar.{IsExpression, IsBegun}

-- how often the text has this byte
abbrev pub count_of_byte : ℕ → List ℕ → ℕ
count_of_byte byte text = count_by (λ b. b == byte) text

-- how many of the brackets of a text are open at its end
abbrev pub open_brackets : List ℕ → ℕ
open_brackets text = count_of_byte 40 text - count_of_byte 41 text

-- at this offset a bracket is opened while 64 are open
pub record OpensTooDeep (text : List ℕ) (at : ℕ) : Type 0 where
  pub bracket : slice_get text at ≡ Some 40
  pub depth : 64 ≤ open_brackets (take at text)

-- among the first n bytes no bracket is opened while 64 are open
abbrev pub IsShallow : List ℕ → ℕ → Type 0
IsShallow text n = (at : ℕ) → at < n → OpensTooDeep text at → ⊥

-- n is the length of the longest prefix of the text that is a prefix of some expression
pub record IsLongestBegun (text : List ℕ) (n : ℕ) : Type 0 where
  pub within : n ≤ length text
  pub begun : IsBegun (take n text)
  pub longest : (m : ℕ) → n < m → m ≤ length text → IsBegun (take m text) → ⊥

-- the text is an expression of this tree, nowhere too deep
pub record IsParsed (text : List ℕ) (tree : Tree) : Type 0 where
  pub expression : IsExpression text tree
  pub shallow : IsShallow text (length text)

-- the text is no expression; its longest prefix of one has n bytes and is nowhere too deep
pub record IsFault (text : List ℕ) (n : ℕ) : Type 0 where
  pub none : (tree : Tree) → IsExpression text tree → ⊥
  pub prefix : IsLongestBegun text n
  pub shallow : IsShallow text n

-- up to and with this byte the text is a prefix of some expression, and here a bracket is opened too deep for the first time
pub record IsFirstTooDeep (text : List ℕ) (at : ℕ) : Type 0 where
  pub begun : IsBegun (take (at + 1) text)
  pub deep : OpensTooDeep text at
  pub first : IsShallow text at

-- the tree of the text, or the exact place where it is too deep or no expression, or want of memory
abbrev pub IsParseOf : List ℕ → Result Expr ParseRefused → Type 0
IsParseOf text (Ok expr) = IsParsed text (tree_of_expression expr)
IsParseOf text (Err (Syntax at)) = IsFault text at
IsParseOf text (Err (TooDeep at)) = IsFirstTooDeep text at
IsParseOf text (Err OutOfMemory) = Unit {0}

-- a text has one tree
abbrev pub HasOneTree : List ℕ → Type 0
HasOneTree text = (a b : Tree) → IsExpression text a → IsExpression text b → a ≡ b
