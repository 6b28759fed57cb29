-- Working definitions of how the reader goes on, byte by byte. What `parse` promises stands in ParseAnswers.
use Rattle.std.specs.Prelude.{◌≡◌, ℕ, ◌+◌, ◌*◌, ◌^◌, ◌<◌, ◌≤◌, ◌==◌, nat_lt, Bool, true, false, List, [], ◌∷◌, length, map, reverse, slice_get, codes}
use Rattle.std.specs.Prelude.{Option, Some, None, Result, Ok, Err, if◌then◌else◌, option_map, option_and_then}
use Rattle.std.specs.Char.{digit_value}
use Rattle.teg_calc.specs.declared.expressions.Expr.{Expr}
use Rattle.teg_calc.specs.declared.bytes.Sign.{Sign}
use Rattle.teg_calc.specs.declared.bytes.Sign.TheVariants.{Blank, Open, Close, Comma, Plus, Dot, Other}
use Rattle.teg_calc.specs.declared.brackets.Call.{Call}
use Rattle.teg_calc.specs.declared.brackets.Call.TheVariants.{Text, Group, Star as StarCall, Least as LeastCall, Left as LeftCall}
use Rattle.teg_calc.specs.declared.brackets.Bracket.{Bracket}
use Rattle.teg_calc.specs.declared.tokens.Word.{Word}
use Rattle.teg_calc.specs.declared.tokens.Word.TheVariants.{Eps, Never as NeverWord, Star as StarWord, Min, Left as LeftWord}
use Rattle.teg_calc.specs.declared.tokens.Part.{Part}
use Rattle.teg_calc.specs.declared.tokens.Part.TheVariants.{Letters, Unit as UnitPart, Name, Shift, Delta, Date}
use Rattle.teg_calc.specs.declared.readers.ReadPlace.{ReadPlace}
use Rattle.teg_calc.specs.declared.readers.ReadPlace.TheVariants.{Operand, Within, Operator}
use Rattle.teg_calc.specs.declared.readers.Reader.{Reader}
use Rattle.teg_calc.specs.declared.refusals.Stop.{Stop}
use Rattle.teg_calc.specs.declared.refusals.Stop.TheVariants.{Unexpected, TooDeep, OutOfMemory}
use Rattle.teg_calc.specs.declared.refusals.ParseRefused.{ParseRefused}
use Rattle.teg_calc.specs.declared.refusals.ParseRefused.TheVariants.{Syntax, TooDeep as TooDeepText, OutOfMemory as NoMemory}
use Rattle.teg_calc.specs.ExpressionTrees.{Tree, tree_of_expression, mono, epsilon, unit, never, plus, times, star, least, left}

-- ---- bytes and tokens

-- the sign that a byte is
abbrev pub sign_of : ℕ → Sign
sign_of byte =
    if byte == 32 then Blank
    else if byte == 40 then Open
    else if byte == 41 then Close
    else if byte == 44 then Comma
    else if byte == 43 then Plus
    else if byte == 46 then Dot
    else Other

-- the value of a decimal digit
abbrev pub digit_of : ℕ → Option ℕ
digit_of byte = if nat_lt (digit_value byte) 10 then Some (digit_value byte) else None

-- the letters of a word
abbrev pub letters_of : Word → List ℕ
letters_of Eps = codes "eps"
letters_of NeverWord = codes "never"
letters_of StarWord = codes "star"
letters_of Min = codes "min"
letters_of LeftWord = codes "left"

-- what the first letter of a word or a monomial begins
abbrev pub begun_by : ℕ → Option Part
begun_by byte =
    if byte == 103 then Some (Shift 0 0)
    else if byte == 101 then Some UnitPart
    else if byte == 110 then Some (Letters NeverWord 1)
    else if byte == 115 then Some (Letters StarWord 1)
    else if byte == 109 then Some (Letters Min 1)
    else if byte == 108 then Some (Letters LeftWord 1)
    else None

-- the numbers of a part are as long as their digits are many
abbrev pub HasFewDigits : Part → Type 0
HasFewDigits (Letters word read) = Unit {0}
HasFewDigits UnitPart = Unit {0}
HasFewDigits (Name call) = Unit {0}
HasFewDigits (Shift count value) = (count ≤ 19) × (value < 10 ^ count)
HasFewDigits (Delta shift) = Unit {0}
HasFewDigits (Date shift minus count value) = (count ≤ 19) × (value < 10 ^ count)

-- ---- brackets

-- the sum so far, with one more term
abbrev pub joined : Option Tree → Tree → Tree
joined None term = term
joined (Some sum) term = plus sum term

-- the product so far, with one more factor
abbrev pub multiplied : Option Tree → Tree → Tree
multiplied None factor = factor
multiplied (Some product) factor = times product factor

-- the factor that a bracket is, closed behind its last operand
abbrev pub closed : Call → Option Tree → Tree → Option Tree
closed Text first last = None
closed Group None last = Some last
closed Group (Some first) last = None
closed StarCall None last = Some (star last)
closed StarCall (Some first) last = None
closed LeastCall None last = None
closed LeastCall (Some first) last = Some (least first last)
closed LeftCall None last = None
closed LeftCall (Some first) last = Some (left first last)

-- whether a comma may come: behind the first operand of a call of two
abbrev pub takes_comma : Call → Option Tree → Bool
takes_comma Text first = false
takes_comma Group first = false
takes_comma StarCall first = false
takes_comma LeastCall None = true
takes_comma LeastCall (Some first) = false
takes_comma LeftCall None = true
takes_comma LeftCall (Some first) = false

-- what stands in an open bracket before the operand that is read
pub record Level : Type 0 where
  pub call : Call
  pub first : Option Tree
  pub sum : Option Tree
  pub product : Option Tree

-- a bracket in which this stands
abbrev pub level : Call → Option Tree → Option Tree → Option Tree → Level
level call first sum product = record { call = call; first = first; sum = sum; product = product }

-- a bracket in which nothing stands
abbrev pub opened_level : Call → Level
opened_level call = level call None None None

-- ---- readers

-- where the next byte stands
pub data Stand : Type 0 where
  operand : Stand
  within : Part → Stand
  operator : Tree → Stand

-- the outer open brackets, the innermost of them first; the innermost bracket; and where the next byte stands
pub record State : Type 0 where
  pub outer : List Level
  pub inner : Level
  pub stand : Stand

-- what was read
abbrev pub state : List Level → Level → Stand → State
state outer inner stand = record { outer = outer; inner = inner; stand = stand }

-- before the first byte
abbrev pub start : State
start = state [] (opened_level Text) operand

-- once one more bracket is opened
abbrev pub nested : List Level → Level → Call → State
nested outer inner call = state (inner ∷ outer) (opened_level call) operand

-- where an operand begins, by the sign, or by what the byte begins
abbrev pub operand_by : Sign → Option Part → List Level → Level → Option State
operand_by Blank part outer inner = Some (state outer inner operand)
operand_by Open part outer inner = Some (nested outer inner Group)
operand_by _ part outer inner = option_map (λ p. state outer inner (within p)) part

-- how the reader goes on by one byte where an operand begins
abbrev pub operand_step : List Level → Level → ℕ → Option State
operand_step outer inner byte = operand_by (sign_of byte) (begun_by byte) outer inner

-- behind one more factor
abbrev pub factored : List Level → Level → Tree → State
factored outer inner factor =
    state outer (level inner.call inner.first inner.sum None) (operator (multiplied inner.product factor))

-- a closed bracket is a factor of the bracket around it
abbrev pub factored_outside : List Level → Tree → Option State
factored_outside [] factor = None
factored_outside (inner ∷ outer) factor = Some (factored outer inner factor)

-- the innermost bracket closed behind a term
abbrev pub close_step : List Level → Level → Tree → Option State
close_step outer inner term =
    option_and_then (factored_outside outer) (closed inner.call inner.first (joined inner.sum term))

-- behind the first operand of a call and a comma
abbrev pub comma_step : List Level → Level → Tree → Option State
comma_step outer inner term =
    if takes_comma inner.call inner.first
    then Some (state outer (level inner.call (Some (joined inner.sum term)) None None) operand)
    else None

-- behind a term, by the sign
abbrev pub operator_by : Sign → List Level → Level → Tree → Option State
operator_by Blank outer inner term = Some (state outer inner (operator term))
operator_by Open outer inner term = None
operator_by Close outer inner term = close_step outer inner term
operator_by Comma outer inner term = comma_step outer inner term
operator_by Plus outer inner term =
    Some (state outer (level inner.call inner.first (Some (joined inner.sum term)) None) operand)
operator_by Dot outer inner term =
    Some (state outer (level inner.call inner.first inner.sum (Some term)) operand)
operator_by Other outer inner term = None

-- how the reader goes on by one byte behind a term
abbrev pub operator_step : List Level → Level → Tree → ℕ → Option State
operator_step outer inner term byte = operator_by (sign_of byte) outer inner term

-- the factor that a token is, where it may end
abbrev pub factor_of : Part → Option Tree
factor_of (Letters word read) = None
factor_of UnitPart = Some unit
factor_of (Name call) = None
factor_of (Shift count value) = None
factor_of (Delta shift) = None
factor_of (Date shift minus count value) = if count == 0 then None else Some (mono shift minus value)

-- a date with one more digit
abbrev pub date_on : ℕ → Bool → ℕ → ℕ → ℕ → Option Part
date_on shift minus count value byte =
    if nat_lt count 19
    then option_map (λ d. Date shift minus (count + 1) (value * 10 + d)) (digit_of byte)
    else None

-- a shift with one more digit
abbrev pub shift_on : ℕ → ℕ → ℕ → Option Part
shift_on count value byte =
    if nat_lt count 19
    then option_map (λ d. Shift (count + 1) (value * 10 + d)) (digit_of byte)
    else None

-- a token with one byte more, where it goes on by that byte
abbrev pub gone_on : Part → ℕ → Option Part
gone_on (Letters word read) byte = None
gone_on UnitPart byte = if byte == 112 then Some (Letters Eps 2) else None
gone_on (Name call) byte = None
gone_on (Shift count value) byte =
    if byte == 100 then (if count == 0 then None else Some (Delta value)) else shift_on count value byte
gone_on (Delta shift) byte = if byte == 45 then Some (Date shift true 0 0) else date_on shift false 0 0 byte
gone_on (Date shift minus count value) byte = date_on shift minus count value byte

-- behind a whole word
abbrev pub word_end : Word → List Level → Level → State
word_end Eps outer inner = factored outer inner epsilon
word_end NeverWord outer inner = factored outer inner never
word_end StarWord outer inner = state outer inner (within (Name StarCall))
word_end Min outer inner = state outer inner (within (Name LeastCall))
word_end LeftWord outer inner = state outer inner (within (Name LeftCall))

-- behind one more letter of a word
abbrev pub word_on : Word → ℕ → List Level → Level → State
word_on word read outer inner =
    if nat_lt (read + 1) (length (letters_of word))
    then state outer inner (within (Letters word (read + 1)))
    else word_end word outer inner

-- how the reader goes on by one byte in a word, whose next letter is given
abbrev pub letter_by : Option ℕ → Word → ℕ → List Level → Level → ℕ → Option State
letter_by None word read outer inner byte = None
letter_by (Some letter) word read outer inner byte = if letter == byte then Some (word_on word read outer inner) else None

-- how the reader goes on by one byte behind the name of a call, by the sign
abbrev pub name_by : Sign → Call → List Level → Level → Option State
name_by Blank call outer inner = Some (state outer inner (within (Name call)))
name_by Open call outer inner = Some (nested outer inner call)
name_by _ call outer inner = None

-- how the reader goes on by one byte behind a factor, where there is one
abbrev pub behind_step : List Level → Level → Option Tree → ℕ → Option State
behind_step outer inner None byte = None
behind_step outer inner (Some factor) byte =
    operator_step outer (level inner.call inner.first inner.sum None) (multiplied inner.product factor) byte

-- how the reader goes on by one byte that makes a token longer, or stands behind the factor that the token is
abbrev pub token_by : Option Part → List Level → Level → Option Tree → ℕ → Option State
token_by (Some part) outer inner factor byte = Some (state outer inner (within part))
token_by None outer inner factor byte = behind_step outer inner factor byte

-- how the reader goes on by one byte in a token or behind it
abbrev pub within_step : Part → List Level → Level → ℕ → Option State
within_step (Letters word read) outer inner byte = letter_by (slice_get (letters_of word) read) word read outer inner byte
within_step (Name call) outer inner byte = name_by (sign_of byte) call outer inner
within_step UnitPart outer inner byte = token_by (gone_on UnitPart byte) outer inner (factor_of UnitPart) byte
within_step (Shift count value) outer inner byte = token_by (gone_on (Shift count value) byte) outer inner None byte
within_step (Delta shift) outer inner byte = token_by (gone_on (Delta shift) byte) outer inner None byte
within_step (Date shift minus count value) outer inner byte =
    token_by (gone_on (Date shift minus count value) byte) outer inner (factor_of (Date shift minus count value)) byte

-- how the reader goes on by one byte, by where it stands
abbrev pub step_by : Stand → List Level → Level → ℕ → Option State
step_by operand outer inner byte = operand_step outer inner byte
step_by (within part) outer inner byte = within_step part outer inner byte
step_by (operator term) outer inner byte = operator_step outer inner term byte

-- how the reader goes on by one byte
abbrev pub step : State → ℕ → Option State
step s byte = step_by s.stand s.outer s.inner byte

-- the term that was read, where one may end
abbrev pub term_of : Stand → Option Tree → Option Tree
term_of operand product = None
term_of (within part) product = option_map (multiplied product) (factor_of part)
term_of (operator term) product = Some term

-- the whole text's tree, where no bracket is open
abbrev pub finish_by : List Level → Option Tree → Option Tree → Option Tree
finish_by [] sum term = option_map (joined sum) term
finish_by (level ∷ outer) sum term = None

-- the tree of what was read, where that is whole
abbrev pub finish : State → Option Tree
finish s = finish_by s.outer s.inner.sum (term_of s.stand s.inner.product)

-- ---- what the code keeps

-- the tree, where there is one
abbrev pub tree_in : Option Expr → Option Tree
tree_in expr = option_map tree_of_expression expr

-- what stands in a bracket
abbrev pub level_of : Bracket → Level
level_of b = level b.call (tree_in b.first) (tree_in b.sum) (tree_in b.product)

-- the outer brackets, the innermost first
abbrev pub levels_of : List Bracket → List Level
levels_of brackets = reverse (map level_of brackets)

-- where the next byte stands
abbrev pub stand_of : ReadPlace → Stand
stand_of Operand = operand
stand_of (Within part) = within part
stand_of (Operator term) = operator (tree_of_expression term)

-- what a reader has read
abbrev pub state_of : Reader → State
state_of r = state (levels_of r.outer.items) (level_of r.inner) (stand_of r.place)

-- the numbers of the token that is read are as long as their digits are many
abbrev pub StandsWell : Stand → Type 0
StandsWell operand = Unit {0}
StandsWell (within part) = HasFewDigits part
StandsWell (operator term) = Unit {0}

-- the byte opens a bracket only where fewer than 64 are open
abbrev pub OpensFew : ℕ → ℕ → Type 0
OpensFew depth byte = byte ≡ 40 → depth < 64

-- a reader that goes on by the byte as `next` says; no expression goes on so; it goes on, but a bracket opens too deep
abbrev pub GoesOnByByte : Option State → ℕ → ℕ → Result Reader Stop → Type 0
GoesOnByByte next depth byte (Ok r) = (next ≡ Some (state_of r)) × StandsWell (stand_of r.place) × OpensFew depth byte
GoesOnByByte next depth byte (Err Unexpected) = next ≡ None
GoesOnByByte next depth byte (Err TooDeep) = (s : State) × (next ≡ Some s) × (byte ≡ 40) × (64 ≤ depth)
GoesOnByByte next depth byte (Err OutOfMemory) = Unit {0}

-- a reader of this state, or none
abbrev pub IsReached : Option State → Result Reader Stop → Type 0
IsReached next (Ok r) = (next ≡ Some (state_of r)) × StandsWell (stand_of r.place)
IsReached next (Err Unexpected) = next ≡ None
IsReached next (Err TooDeep) = ⊥
IsReached next (Err OutOfMemory) = Unit {0}

-- the reader, with a stand of its own, that these brackets lead to
abbrev pub IsAt : (List Level → Level → Option State) → List Bracket → Bracket → Reader → Type 0
IsAt next outer inner r = (next (levels_of outer) (level_of inner) ≡ Some (state_of r)) × StandsWell (stand_of r.place)

-- the reader that these brackets lead to, with the levels that the step gives, or none
abbrev pub ReachesLevels : (List Level → Level → Option State) → List Bracket → Bracket → Result Reader Stop → Type 0
ReachesLevels next outer inner result = IsReached (next (levels_of outer) (level_of inner)) result

-- the reader that these brackets and the byte lead to
abbrev pub Goes : (List Level → Level → ℕ → Option State) → List Bracket → Bracket → ℕ → Result Reader Stop → Type 0
Goes next outer inner byte result = GoesOnByByte (next (levels_of outer) (level_of inner) byte) (length outer) byte result

-- the refusal at an offset
abbrev pub refused_at : ℕ → Stop → ParseRefused
refused_at at Unexpected = Syntax at
refused_at at TooDeep = TooDeepText at
refused_at at OutOfMemory = NoMemory

-- the whole tree, or none
abbrev pub Finishes : Option Tree → Result Expr Stop → Type 0
Finishes tree (Ok expr) = tree ≡ Some (tree_of_expression expr)
Finishes tree (Err Unexpected) = tree ≡ None
Finishes tree (Err TooDeep) = ⊥
Finishes tree (Err OutOfMemory) = Unit {0}
