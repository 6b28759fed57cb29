-- What a reader's state says of the text that was read: how the open brackets and what stands in them were written.
use Rattle.std.proofs.Common.{◌≡◌, ℕ, ◌<◌, ◌≤◌, List, [], ◌∷◌, ◌++◌, length, take, codes, Bool, Option, Some, None}
use Rattle.std.specs.Str.Parse.{AllDigits, digits_value}
use Rattle.teg_calc.specs.declared.brackets.Call.{Call}
use Rattle.teg_calc.specs.declared.brackets.Call.TheVariants.{Text, Group, Star as StarCall, Least as LeastCall, Left as LeftCall}
use Rattle.teg_calc.specs.declared.tokens.Part.{Part}
use Rattle.teg_calc.specs.declared.tokens.Part.TheVariants.{Letters, Unit as UnitPart, Name, Shift, Delta, Date}
use Rattle.teg_calc.specs.ExpressionTrees.{Tree}
use Rattle.teg_calc.specs.Grammar.{Blanks, AreDigits, ExprText, TermText, blanks, spaced, minus_text, expr_text, term_text, expr_tree, term_tree}
use Rattle.teg_calc.specs.Readers.{Level, Stand, State, operand, within, operator, letters_of}

-- ---- brackets

-- an open bracket alone
pub record IsGroupHead (h : List ℕ) : Type 0 where
  pub inside : Blanks
  pub text_is : h ≡ spaced inside (codes "(")

-- the name of a call and its open bracket
pub record IsCallHead (name h : List ℕ) : Type 0 where
  pub before : Blanks
  pub inside : Blanks
  pub text_is : h ≡ spaced before name ++ spaced inside (codes "(")

-- the same, its first operand and its comma
pub record IsSecondHead (name : List ℕ) (a : Tree) (h : List ℕ) : Type 0 where
  pub before : Blanks
  pub inside : Blanks
  pub comma : Blanks
  pub written : ExprText
  pub tree_is : expr_tree written ≡ a
  pub text_is : h ≡ spaced before name ++ (spaced inside (codes "(") ++ (expr_text written ++ spaced comma (codes ",")))

-- how a bracket begins
abbrev pub IsHead : Call → Option Tree → List ℕ → Type 0
IsHead Text first h = ⊥
IsHead Group None h = IsGroupHead h
IsHead Group (Some a) h = ⊥
IsHead StarCall None h = IsCallHead (codes "star") h
IsHead StarCall (Some a) h = ⊥
IsHead LeastCall None h = IsCallHead (codes "min") h
IsHead LeastCall (Some a) h = IsSecondHead (codes "min") a h
IsHead LeftCall None h = IsCallHead (codes "left") h
IsHead LeftCall (Some a) h = IsSecondHead (codes "left") a h

-- a sum and its `+`
pub record IsSummed (a : Tree) (s : List ℕ) : Type 0 where
  pub written : ExprText
  pub sign : Blanks
  pub tree_is : expr_tree written ≡ a
  pub text_is : s ≡ expr_text written ++ spaced sign (codes "+")

abbrev pub IsSumText : Option Tree → List ℕ → Type 0
IsSumText None s = s ≡ []
IsSumText (Some a) s = IsSummed a s

-- a product and its `.`
pub record IsMultiplied (a : Tree) (s : List ℕ) : Type 0 where
  pub written : TermText
  pub sign : Blanks
  pub tree_is : term_tree written ≡ a
  pub text_is : s ≡ term_text written ++ spaced sign (codes ".")

abbrev pub IsProductText : Option Tree → List ℕ → Type 0
IsProductText None s = s ≡ []
IsProductText (Some a) s = IsMultiplied a s

-- the text as far as an operand in a bracket: how the brackets begin, the sum and the product
pub record IsInside (IsHeads : List ℕ → Type 0) (l : Level) (u : List ℕ) : Type 0 where
  pub heads : List ℕ
  pub sum : List ℕ
  pub product : List ℕ
  pub is_heads : IsHeads heads
  pub is_sum : IsSumText l.sum sum
  pub is_product : IsProductText l.product product
  pub text_is : u ≡ heads ++ (sum ++ product)

-- the text as far as into one more bracket
pub record IsDeeper (IsOuter IsOwn : List ℕ → Type 0) (h : List ℕ) : Type 0 where
  pub outer : List ℕ
  pub own : List ℕ
  pub is_outer : IsOuter outer
  pub is_own : IsOwn own
  pub text_is : h ≡ outer ++ own

-- in no bracket
pub record IsBottom (call : Call) (first : Option Tree) (h : List ℕ) : Type 0 where
  pub call_is : call ≡ Text
  pub first_is : first ≡ None
  pub text_is : h ≡ []

-- the text as far as into the innermost bracket
abbrev pub IsHeads : List Level → Call → Option Tree → List ℕ → Type 0
IsHeads [] call first h = IsBottom call first h
IsHeads (m ∷ o) call first h = IsDeeper (IsInside (IsHeads o m.call m.first) m) (IsHead call first) h

-- ---- tokens

-- the name of a call and blanks behind it
pub record IsNameText (name z : List ℕ) : Type 0 where
  pub after : ℕ
  pub text_is : z ≡ name ++ blanks after

-- some letters of a word, not all
pub record IsLetters (word : List ℕ) (read : ℕ) (z : List ℕ) : Type 0 where
  pub within : read < length word
  pub text_is : z ≡ take read word

-- digits so far, and their number
pub record AreDigitsOf (count value : ℕ) (digits : List ℕ) : Type 0 where
  pub digits_are : AllDigits 10 digits
  pub count_is : length digits ≡ count
  pub few : count ≤ 19
  pub value_is : digits_value 10 digits ≡ value

-- `g` and digits
pub record IsShiftText (count value : ℕ) (z : List ℕ) : Type 0 where
  pub digits : List ℕ
  pub are : AreDigitsOf count value digits
  pub text_is : z ≡ 103 ∷ digits

-- a monomial up to its `d`
pub record IsDeltaText (shift : ℕ) (z : List ℕ) : Type 0 where
  pub digits : List ℕ
  pub are : AreDigits digits
  pub value_is : digits_value 10 digits ≡ shift
  pub text_is : z ≡ 103 ∷ (digits ++ (100 ∷ []))

-- a monomial up to some digits of its date
pub record IsDateText (shift : ℕ) (minus : Bool) (count value : ℕ) (z : List ℕ) : Type 0 where
  pub digits : List ℕ
  pub are : AreDigits digits
  pub value_is : digits_value 10 digits ≡ shift
  pub date : List ℕ
  pub date_are : AreDigitsOf count value date
  pub text_is : z ≡ 103 ∷ (digits ++ (100 ∷ (minus_text minus ++ date)))

abbrev pub IsPartText : Part → List ℕ → Type 0
IsPartText (Letters word read) z = IsLetters (letters_of word) read z
IsPartText UnitPart z = z ≡ 101 ∷ []
IsPartText (Name Text) z = ⊥
IsPartText (Name Group) z = ⊥
IsPartText (Name StarCall) z = IsNameText (codes "star") z
IsPartText (Name LeastCall) z = IsNameText (codes "min") z
IsPartText (Name LeftCall) z = IsNameText (codes "left") z
IsPartText (Shift count value) z = IsShiftText count value z
IsPartText (Delta shift) z = IsDeltaText shift z
IsPartText (Date shift minus count value) z = IsDateText shift minus count value z

-- ---- where the next byte stands

pub record IsAtOperand (product : Option Tree) (v : List ℕ) : Type 0 where
  pub own : List ℕ
  pub spaces : ℕ
  pub is_product : IsProductText product own
  pub text_is : v ≡ own ++ blanks spaces

pub record IsInPart (part : Part) (product : Option Tree) (v : List ℕ) : Type 0 where
  pub own : List ℕ
  pub spaces : ℕ
  pub token : List ℕ
  pub is_product : IsProductText product own
  pub is_token : IsPartText part token
  pub text_is : v ≡ own ++ (blanks spaces ++ token)

pub record IsBehindTerm (t : Tree) (product : Option Tree) (v : List ℕ) : Type 0 where
  pub none : product ≡ None
  pub written : TermText
  pub tree_is : term_tree written ≡ t
  pub text_is : v ≡ term_text written

abbrev pub IsStandText : Stand → Option Tree → List ℕ → Type 0
IsStandText operand product v = IsAtOperand product v
IsStandText (within part) product v = IsInPart part product v
IsStandText (operator t) product v = IsBehindTerm t product v

-- the text w leads to the state
pub record Holds (s : State) (w : List ℕ) : Type 0 where
  pub heads : List ℕ
  pub sum : List ℕ
  pub last : List ℕ
  pub is_heads : IsHeads s.outer s.inner.call s.inner.first heads
  pub is_sum : IsSumText s.inner.sum sum
  pub is_last : IsStandText s.stand s.inner.product last
  pub text_is : w ≡ heads ++ (sum ++ last)
