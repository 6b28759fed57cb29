-- What the text of a bound shows.
use Rattle.std.specs.Prelude.{ℕ, ◌<◌, ◌≡◌, ◌^◌, ⊤, ◌∷◌, [], List, codes, length}
use Rattle.std.specs.Fmt.{decimal}
use Rattle.bound_laws.specs.Critical.{EachReachesEach}
use Rattle.settled_laws.specs.SettledForms.{SettledForm, IsSettledFormOf}
use Rattle.teg_net.specs.Circuits.{IsLive}
use Rattle.teg_net.specs.Nets.{NetLists}
use Rattle.teg_net.specs.Parts.{Reaches}
use Rattle.teg_text.specs.Lines.{phrase, written}
use Rattle.teg_text.specs.WordsOfNames.{settled_words}
use Rattle.bound_check.specs.declared.bound.ShownBound.{ShownBound}
use Rattle.bound_check.specs.declared.bound.ShownBound.TheVariants.{Number, Without}
use Rattle.bound_check.specs.declared.cause.WhyNone.{WhyNone}
use Rattle.bound_check.specs.declared.cause.WhyNone.TheVariants.{HasInputs, NoPlace, NotStrong, ReadyDates}
use Rattle.bound_check.specs.Formulas.{HasLateToken, HasSomeInput, IsBoundNumber, StandsAlone}

-- the lines of a bound, and of the number and the period of the shortest settled form
abbrev pub number_lines : ℕ → ℕ → ℕ → List (List (List ℕ))
number_lines number after period = (codes "bound" ∷ decimal number ∷ []) ∷ settled_words after period ∷ []

-- the words of a cause
abbrev pub words_of_cause : WhyNone → List (List ℕ)
words_of_cause HasInputs = phrase (codes "no bound: has inputs")
words_of_cause NoPlace = phrase (codes "no bound: no place")
words_of_cause NotStrong = phrase (codes "no bound: not strongly connected")
words_of_cause ReadyDates = phrase (codes "no bound: ready dates")

-- no path leads from some transition to some other
pub record LacksPath (net : NetLists) : Type 0 where
  pub from : ℕ
  pub to : ℕ
  pub from_in : from < length net.transitions
  pub to_in : to < length net.transitions
  pub none : Reaches net from to → ⊥

-- the first cause why the net has no bound: an input; no place; a transition that another does not reach; a token that is ready only after 0
abbrev pub IsFirstCause : NetLists → WhyNone → Type 0
IsFirstCause net HasInputs = HasSomeInput net
IsFirstCause net NoPlace = (HasSomeInput net → ⊥) × (length net.places ≡ 0)
IsFirstCause net NotStrong = StandsAlone net × LacksPath net
IsFirstCause net ReadyDates = StandsAlone net × EachReachesEach net × HasLateToken net

-- the shortest settled form of the least dating has this number and this period
abbrev pub SettlesBy : NetLists → ℕ → ℕ → Type 0
SettlesBy net after period = (f : SettledForm) × IsSettledFormOf net f × (f.after ≡ after) × (f.period ≡ period)

-- what is told is so: the number is the bound of the net, with the number and the period of the shortest settled form of its least dating; or
-- the cause is the first why it has none
abbrev pub IsRightOf : NetLists → ShownBound → Type 0
IsRightOf net (Number number after period) = IsBoundNumber net number × SettlesBy net after period
IsRightOf net (Without cause) = IsFirstCause net cause

-- its lines
abbrev pub lines_of_bound : ShownBound → List (List (List ℕ))
lines_of_bound (Number number after period) = number_lines number after period
lines_of_bound (Without cause) = words_of_cause cause ∷ []

-- a bound is below 10^24, and the number and the period of a form have 64 bits
abbrev pub IsInWidth : ShownBound → Type 0
IsInWidth (Number number after period) = (number < 10 ^ 24) × (after < 2 ^ 64) × (period < 2 ^ 64)
IsInWidth (Without cause) = ⊤

-- the net is live, what is told is so, and the whole text tells it
pub record IsShownBound (net : NetLists) (text : List ℕ) (shown : ShownBound) : Type 0 where
  pub live : IsLive net
  pub right : IsRightOf net shown
  pub width : IsInWidth shown
  pub told : text ≡ written (lines_of_bound shown)

-- the text is not shown to tell a cause
abbrev pub ShowsNoCause : NetLists → List ℕ → Type 0
ShowsNoCause net text = (cause : WhyNone) → IsShownBound net text (Without cause) → ⊥

-- the net is live, and the text tells nothing that is so
pub record IsRefutedBound (net : NetLists) (text : List ℕ) : Type 0 where
  pub live : IsLive net
  pub not_shown : (shown : ShownBound) → IsShownBound net text shown → ⊥
