-- Refused net files: their lines, what a refusal keeps, and how it is read back.
use Rattle.std.specs.Prelude.{ℕ, List, [], ◌∷◌, ◌++◌, codes, ⊤, not, ◌&&◌, drop, bytes_eq, if◌then◌else◌, IsTrue}
use Rattle.std.specs.Fmt.{decimal}
use Rattle.teg_reader.specs.declared.refusals.ReadRefusal.{ReadRefusal}
use Rattle.teg_reader.specs.declared.refusals.ReadRefusal.TheVariants.{NotToml, UnknownKey, WrongKind, MissingKey, BadName, Repeated, OutOfRange}
use Rattle.teg_reader.specs.declared.refusals.ReadRefusal.TheVariants.{NoTransitions, UnknownTransition, NotEventGraph, InputHasUpstream, BadInput}
use Rattle.teg_reader.specs.declared.refusals.ReadRefusal.TheVariants.{BadReady, TooSlow, OutOfMemory}
use Rattle.teg_reader.specs.declared.refusals.Section.{Section}
use Rattle.teg_reader.specs.declared.refusals.Section.TheVariants.{Top, Transition, Place, Input}
use Rattle.teg_reader.specs.declared.refusals.Spot.{Spot}
use Rattle.teg_reader.specs.Keys.{key_text}
use Rattle.teg_text.specs.Lines.{phrase}
use Rattle.teg_text.specs.ValueWords.{label_word, AreBytes}
use Rattle.teg_reader.specs.declared.keys.Key.{Key}
use Rattle.teg_reader.specs.declared.keys.Key.TheVariants.{Version, Transition as TransitionKey, Place as PlaceKey, Input as InputKey, Name, Role}
use Rattle.teg_reader.specs.declared.keys.Key.TheVariants.{Duration, From, To, Hold, Tokens, Ready, Dates, Every, Gap}
use Rattle.teg_text.specs.WordReading.{word, stands_at, number_in, is_numeral, label_in}
use Rattle.teg_net.specs.Names.{is_name}
use Rattle.teg_reader.specs.RefusalSpots.{IsPlainSpot}
use Rattle.teg_lines.specs.Widths.{IsWord32}

-- a table of the file: its section, and its position there but at the top
abbrev pub table_words : Section → ℕ → List (List ℕ)
table_words Top position = codes "top" ∷ []
table_words Transition position = codes "transition" ∷ decimal position ∷ []
table_words Place position = codes "place" ∷ decimal position ∷ []
table_words Input position = codes "input" ∷ decimal position ∷ []

-- where in the file the fault is
abbrev pub spot_words : Spot → List (List ℕ)
spot_words spot = table_words spot.section spot.position

-- what is wrong at a table, and with which key or text, where the fault has one
abbrev pub fault_line : Spot → List ℕ → List (List ℕ) → List (List ℕ)
fault_line spot fault about = codes "refused:" ∷ (spot_words spot ++ (phrase fault ++ about))

-- how many producers and consumers a place has, where these are not one and one
abbrev pub ends_line : List ℕ → ℕ → ℕ → List (List ℕ)
ends_line place producers consumers =
    phrase (codes "refused: place")
    ++ place ∷ codes "has" ∷ decimal producers ∷ codes "producers" ∷ codes "and" ∷ decimal consumers ∷ codes "consumers" ∷ []

-- that a place leads to an input
abbrev pub entered_line : List ℕ → List (List ℕ)
entered_line place = phrase (codes "refused: place") ++ place ∷ phrase (codes "enters an input")

-- where the list of an input is faulty
abbrev pub input_line : List ℕ → ℕ → List (List ℕ)
input_line transition position = phrase (codes "refused: input of") ++ transition ∷ codes "bad" ∷ codes "at" ∷ decimal position ∷ []

-- how many ready dates a place has, where these are not as many as its tokens
abbrev pub ready_line : List ℕ → ℕ → ℕ → List (List ℕ)
ready_line place given tokens =
    phrase (codes "refused: place")
    ++ place ∷ codes "has" ∷ decimal given ∷ codes "ready" ∷ codes "dates" ∷ codes "for" ∷ decimal tokens ∷ codes "tokens" ∷ []

-- that the hold of a place is too great
abbrev pub hold_line : List ℕ → List (List ℕ)
hold_line place = phrase (codes "refused: place") ++ place ∷ phrase (codes "hold exceeds 1000000000")

-- why the bytes of a file say no net
abbrev pub read_line : ReadRefusal → List (List ℕ)
read_line NotToml = phrase (codes "refused: not TOML")
read_line (UnknownKey spot key) = fault_line spot (codes "unknown key") (label_word key ∷ [])
read_line (WrongKind spot key) = fault_line spot (codes "wrong kind") (key_text key ∷ [])
read_line (MissingKey spot key) = fault_line spot (codes "missing") (key_text key ∷ [])
read_line (BadName spot) = fault_line spot (codes "bad name") []
read_line (Repeated spot) = fault_line spot (codes "repeated") []
read_line (OutOfRange spot key) = fault_line spot (codes "out of range") (key_text key ∷ [])
read_line NoTransitions = phrase (codes "refused: no transitions")
read_line (UnknownTransition spot name) = fault_line spot (codes "unknown transition") (label_word name ∷ [])
read_line (NotEventGraph place producers consumers) = ends_line place producers consumers
read_line (InputHasUpstream place) = entered_line place
read_line (BadInput transition position) = input_line transition position
read_line (BadReady place given tokens) = ready_line place given tokens
read_line (TooSlow place) = hold_line place
read_line OutOfMemory = []

-- a position is one of 32 bits, and 0 at the top
pub record IsSpot (spot : Spot) : Type 0 where
  pub position : IsWord32 spot.position
  pub top : IsPlainSpot spot

-- what a refusal of the reader keeps; it is not its want of memory
abbrev pub IsReadRefusalKept : ReadRefusal → Type 0
IsReadRefusalKept NotToml = ⊤
IsReadRefusalKept (UnknownKey spot key) = IsSpot spot × AreBytes key
IsReadRefusalKept (WrongKind spot key) = IsSpot spot
IsReadRefusalKept (MissingKey spot key) = IsSpot spot
IsReadRefusalKept (BadName spot) = IsSpot spot
IsReadRefusalKept (Repeated spot) = IsSpot spot
IsReadRefusalKept (OutOfRange spot key) = IsSpot spot
IsReadRefusalKept NoTransitions = ⊤
IsReadRefusalKept (UnknownTransition spot name) = IsSpot spot × AreBytes name
IsReadRefusalKept (NotEventGraph place producers consumers) = IsTrue (is_name place) × IsWord32 producers × IsWord32 consumers
IsReadRefusalKept (InputHasUpstream place) = IsTrue (is_name place)
IsReadRefusalKept (BadInput transition position) = IsTrue (is_name transition) × IsWord32 position
IsReadRefusalKept (BadReady place given tokens) = IsTrue (is_name place) × IsWord32 given × IsWord32 tokens
IsReadRefusalKept (TooSlow place) = IsTrue (is_name place)
IsReadRefusalKept OutOfMemory = ⊥

-- a key of the file
abbrev pub key_in : List ℕ → Key
key_in word =
    if bytes_eq word (codes "version") then Version
    else if bytes_eq word (codes "transition") then TransitionKey
    else if bytes_eq word (codes "place") then PlaceKey
    else if bytes_eq word (codes "input") then InputKey
    else if bytes_eq word (codes "name") then Name
    else if bytes_eq word (codes "role") then Role
    else if bytes_eq word (codes "duration") then Duration
    else if bytes_eq word (codes "from") then From
    else if bytes_eq word (codes "to") then To
    else if bytes_eq word (codes "hold") then Hold
    else if bytes_eq word (codes "tokens") then Tokens
    else if bytes_eq word (codes "ready") then Ready
    else if bytes_eq word (codes "dates") then Dates
    else if bytes_eq word (codes "every") then Every
    else Gap

-- what is wrong at a table, from the words behind the table
abbrev pub fault_in : Spot → List (List ℕ) → ReadRefusal
fault_in spot words =
    if stands_at 0 words (codes "wrong") then WrongKind spot (key_in (word 2 words))
    else if stands_at 0 words (codes "missing") then MissingKey spot (key_in (word 1 words))
    else if stands_at 0 words (codes "bad") then BadName spot
    else if stands_at 0 words (codes "repeated") then Repeated spot
    else if stands_at 0 words (codes "out") then OutOfRange spot (key_in (word 3 words))
    else if stands_at 1 words (codes "key") then UnknownKey spot (label_in (word 2 words))
    else UnknownTransition spot (label_in (word 2 words))

-- a section of the file
abbrev pub section_in : List ℕ → Section
section_in word = if bytes_eq word (codes "transition") then Transition else if bytes_eq word (codes "place") then Place else Input

-- a refused net file; words of the text are looked for before names of the file
abbrev pub refusal_in : List (List ℕ) → ReadRefusal
refusal_in line =
    if stands_at 1 line (codes "not") then NotToml
    else if stands_at 1 line (codes "no") then NoTransitions
    else if stands_at 1 line (codes "top") then fault_in (record { section = Top; position = 0 }) (drop 2 line)
    else if stands_at 1 line (codes "input") && not (is_numeral (word 2 line)) then BadInput (word 3 line) (number_in (word 6 line))
    else if stands_at 3 line (codes "has") && stands_at 5 line (codes "ready") then BadReady (word 2 line) (number_in (word 4 line)) (number_in (word 8 line))
    else if stands_at 3 line (codes "has") then NotEventGraph (word 2 line) (number_in (word 4 line)) (number_in (word 7 line))
    else if stands_at 3 line (codes "enters") then InputHasUpstream (word 2 line)
    else if stands_at 3 line (codes "hold") then TooSlow (word 2 line)
    else fault_in (record { section = section_in (word 1 line); position = number_in (word 2 line) }) (drop 3 line)
