-- The names of the usage are those of the commands.
use Rattle.std.proofs.Common.{◌≡◌, ◌<◌, ⊎_elim, ℕ, Bool, true, false, List, [], ◌∷◌, Option, Some, None, All, drop, length, slice_index_or, refl, sym}
use Rattle.std.proofs.Common.{subst, codes, bytes_eq, is_some, if◌then◌else◌, arith}
use Rattle.std.proofs.lemmas.Bool.{cases_Bool}
use Rattle.std.proofs.lemmas.List.Elements.{All-cons, All-nil}
use Rattle.std.proofs.lemmas.Slice.Eq.{bytes_eq-Decides}
use Rattle.teg_report.specs.UsageLines.{commands}
use Rattle.teg_words.specs.CommandLineWords.{Given}
use Rattle.teg_request.specs.declared.request.Request.{Request}
use Rattle.teg_request.specs.CommandNames.{IsAsked, IsInUsage, CommandsAreThoseOfTheUsage}
use Rattle.teg_request.specs.Requests.{asked_for, limited_asked, plain_asked}

-- ---- each name is accepted

abbrev plain_given : List ℕ → List (List ℕ) → Given
plain_given command rest = record { command = command; rest = rest; limit = None; rounds = false }

asked_by : (command : List ℕ) (rest : List (List ℕ)) (request : Request) → asked_for (plain_given command rest) ≡ Some request → IsAsked command
asked_by command rest request e = (plain_given command rest, request, refl, e)

abbrev HasAskedName : List ℕ × List ℕ → Type 0
HasAskedName command = IsAsked command.0

accepted : All HasAskedName commands
accepted =
    All-cons HasAskedName (codes "check", codes "NET") (drop 1 commands) (asked_by (codes "check") (codes "n" ∷ []) _ refl)
    (All-cons HasAskedName (codes "list", codes "NET K") (drop 2 commands) (asked_by (codes "list") (codes "n" ∷ codes "1" ∷ []) _ refl)
    (All-cons HasAskedName (codes "form", codes "NET") (drop 3 commands) (asked_by (codes "form") (codes "n" ∷ []) _ refl)
    (All-cons HasAskedName (codes "cycle", codes "NET [--rounds]") (drop 4 commands) (asked_by (codes "cycle") (codes "n" ∷ []) _ refl)
    (All-cons HasAskedName (codes "dates", codes "NET [--limit N|none]") (drop 5 commands) (asked_by (codes "dates") (codes "n" ∷ []) _ refl)
    (All-cons HasAskedName (codes "date", codes "NET TRANSITION K [--limit N|none]") (drop 6 commands) (asked_by (codes "date") (codes "n" ∷ codes "t" ∷ codes "1" ∷ []) _ refl)
    (All-cons HasAskedName (codes "jit", codes "NET DUE") (drop 7 commands) (asked_by (codes "jit") (codes "n" ∷ codes "d" ∷ []) _ refl)
    (All-cons HasAskedName (codes "calc", codes "EXPR") (drop 8 commands) (asked_by (codes "calc") (codes "e" ∷ []) _ refl)
    (All-cons HasAskedName (codes "replay", codes "NET LOG") (drop 9 commands) (asked_by (codes "replay") (codes "n" ∷ codes "l" ∷ []) _ refl)
    (All-cons HasAskedName (codes "slack", codes "NET") (drop 10 commands) (asked_by (codes "slack") (codes "n" ∷ []) _ refl)
    (All-cons HasAskedName (codes "transfer", codes "NET [--limit N]") (drop 11 commands) (asked_by (codes "transfer") (codes "n" ∷ []) _ refl)
    (All-cons HasAskedName (codes "trial", codes "N") (drop 12 commands) (asked_by (codes "trial") (codes "1" ∷ []) _ refl)
    (All-cons HasAskedName (codes "migrate", codes "NET") (drop 13 commands) (asked_by (codes "migrate") (codes "n" ∷ []) _ refl)
    (All-cons HasAskedName (codes "forever", codes "NET DUE") (drop 14 commands) (asked_by (codes "forever") (codes "n" ∷ codes "d" ∷ []) _ refl)
    (All-cons HasAskedName (codes "size", codes "NET PLACE A/B") (drop 15 commands) (asked_by (codes "size") (codes "n" ∷ codes "p" ∷ codes "1/1" ∷ []) _ refl)
    (All-cons HasAskedName (codes "timetable", codes "NET A FILE [--limit N|none]") (drop 16 commands) (asked_by (codes "timetable") (codes "n" ∷ codes "1" ∷ codes "f" ∷ []) _ refl)
    (All-cons HasAskedName (codes "bound", codes "NET") (drop 17 commands) (asked_by (codes "bound") (codes "n" ∷ []) _ refl)
    (All-nil HasAskedName)))))))))))))))))

-- ---- no other word is

-- a word is the name of this command of the usage, or something is asked for with it by the others
named : (k : ℕ) (command : List ℕ × List ℕ) (word : List ℕ) (one others : Option Request) (request : Request) → k < length commands → slice_index_or commands k command ≡ command →
    (others ≡ Some request → IsInUsage word) → (if bytes_eq word command.0 then one else others) ≡ Some request → IsInUsage word
named k command word one others request within there further e =
    ⊎_elim
    (λ (q : bytes_eq word command.0 ≡ true). (k, command, within, there, sym ((bytes_eq-Decides word command.0).0 q)))
    (λ (q : bytes_eq word command.0 ≡ false). further (rw q at e))
    (cases_Bool (bytes_eq word command.0))

plain_named : (word : List ℕ) (rest : List (List ℕ)) (request : Request) → plain_asked word rest ≡ Some request → IsInUsage word
plain_named word rest request =
    named 0 (codes "check", codes "NET") word _ _ request (omega arith) refl
    (named 2 (codes "form", codes "NET") word _ _ request (omega arith) refl
    (named 9 (codes "slack", codes "NET") word _ _ request (omega arith) refl
    (named 12 (codes "migrate", codes "NET") word _ _ request (omega arith) refl
    (named 16 (codes "bound", codes "NET") word _ _ request (omega arith) refl
    (named 6 (codes "jit", codes "NET DUE") word _ _ request (omega arith) refl
    (named 8 (codes "replay", codes "NET LOG") word _ _ request (omega arith) refl
    (named 13 (codes "forever", codes "NET DUE") word _ _ request (omega arith) refl
    (named 1 (codes "list", codes "NET K") word _ _ request (omega arith) refl
    (named 14 (codes "size", codes "NET PLACE A/B") word _ _ request (omega arith) refl
    (named 7 (codes "calc", codes "EXPR") word _ _ request (omega arith) refl
    (named 11 (codes "trial", codes "N") word _ _ request (omega arith) refl
    (λ (none : None ≡ Some request). cc))))))))))))

unlimited_named : (word : List ℕ) (rest : List (List ℕ)) (limit : Option (List ℕ)) (request : Request) →
    (if is_some limit then None else plain_asked word rest) ≡ Some request → IsInUsage word
unlimited_named word rest None request e = plain_named word rest request e
unlimited_named word rest (Some given) request e = cc

limited_named : (word : List ℕ) (rest : List (List ℕ)) (limit : Option (List ℕ)) (request : Request) → limited_asked word rest limit ≡ Some request → IsInUsage word
limited_named word rest limit request =
    named 4 (codes "dates", codes "NET [--limit N|none]") word _ _ request (omega arith) refl
    (named 5 (codes "date", codes "NET TRANSITION K [--limit N|none]") word _ _ request (omega arith) refl
    (named 15 (codes "timetable", codes "NET A FILE [--limit N|none]") word _ _ request (omega arith) refl
    (named 10 (codes "transfer", codes "NET [--limit N]") word _ _ request (omega arith) refl
    (unlimited_named word rest limit request))))

roundless_named : (word : List ℕ) (rest : List (List ℕ)) (limit : Option (List ℕ)) (rounds : Bool) (request : Request) →
    (if rounds then None else limited_asked word rest limit) ≡ Some request → IsInUsage word
roundless_named word rest limit false request e = limited_named word rest limit request e
roundless_named word rest limit true request e = cc

no_other : (name : List ℕ) → IsAsked name → IsInUsage name
no_other name asked =
    let given = asked.0 in
    subst IsInUsage asked.2 (
    named 3 (codes "cycle", codes "NET [--rounds]") given.command _ _ asked.1 (omega arith) refl
    (roundless_named given.command given.rest given.limit given.rounds asked.1) asked.3)

pub commands_tied : CommandsAreThoseOfTheUsage
commands_tied = record { accepted = accepted; no_other = no_other }
