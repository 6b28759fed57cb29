-- What the words of the command line ask for.
use Rattle.std.specs.Prelude.{ℕ, Bool, List, [], ◌∷◌, Option, Some, None, codes, bytes_eq, nat_le, length, if◌then◌else◌, is_some, option_and_then, ◌==◌}
use Rattle.std.specs.Option.{option_map}
use Rattle.std.specs.List.{before_first, after_first}
use Rattle.teg_report.specs.date_rows.DateTables.{most_numbers}
use Rattle.teg_net.specs.Limits.{greatest_firing_number, greatest_target_time, most_target_tokens}
use Rattle.teg_settle.specs.LimitRefusals.{greatest_limit}
use Rattle.teg_timetable.specs.release_nets.PlannedNets.{greatest_period}
use Rattle.teg_words.specs.NumberWords.{number_of_word}
use Rattle.teg_words.specs.CommandLineWords.{Given, given_of}
use Rattle.teg_outcome.specs.CommandLimits.{most_expression, most_machines}
use Rattle.teg_request.specs.declared.request.NetCommand.TheVariants.{List as ListNet, Asks}
use Rattle.teg_request.specs.declared.request.Question.{Question}
use Rattle.teg_request.specs.declared.request.Question.TheVariants.{Check as CheckNet, Form as FormNet, Cycle as CycleNet, Slack as SlackNet, Dates as DatesNet}
use Rattle.teg_request.specs.declared.request.Question.TheVariants.{Date as DateNet, Transfer as TransferNet, Migrate as MigrateNet, Size as SizeNet, Bound as BoundNet}
use Rattle.teg_request.specs.declared.request.FileCommand.{FileCommand}
use Rattle.teg_request.specs.declared.request.FileCommand.TheVariants.{Jit as JitNet, Replay as ReplayNet, Forever as ForeverNet, Timetable as TimetableNet}
use Rattle.teg_request.specs.declared.request.Request.{Request}
use Rattle.teg_request.specs.declared.request.Request.TheVariants.{OfNet, OfFiles, ValueOf, TrialOf}
use Rattle.teg_request.specs.UsualLimits.{usual_limit}
use Rattle.teg_report.specs.declared.answer.Which.{Which}
use Rattle.teg_report.specs.declared.answer.Which.TheVariants.{Net as NetFile, Due as DueFile, Log as LogFile, Timetable as TimetableFile}

-- this question on the net of the one word that is given: as `check NET`
abbrev pub only_net : Question → List (List ℕ) → Option Request
only_net question (net ∷ []) = Some (OfNet (Asks question) net)
only_net question rest = None

-- this command on the net and the second file of the two words that are given: as `jit NET DUE`
abbrev pub net_and_file : FileCommand → List (List ℕ) → Option Request
net_and_file command (net ∷ second ∷ []) = Some (OfFiles command net second)
net_and_file command rest = None

-- `list NET K`, with K from 1 to the most numbers of a table
abbrev pub list_asked : List (List ℕ) → Option Request
list_asked (net ∷ word ∷ []) = option_map (λ count. OfNet (ListNet count) net) (number_of_word 1 most_numbers word)
list_asked rest = None

-- the limit of a settled form: a number, or the usual one
abbrev pub number_limit : Option (List ℕ) → Option ℕ
number_limit None = Some usual_limit
number_limit (Some word) = number_of_word 1 greatest_limit word

-- the limit of a settled form: a number, the usual one where no word is given, or no limit where the word is `none`
abbrev pub limit_asked : Option (List ℕ) → Option (Option ℕ)
limit_asked None = Some (Some usual_limit)
limit_asked (Some word) = if bytes_eq word (codes "none") then Some None else option_map (λ limit. Some limit) (number_of_word 1 greatest_limit word)

-- `date NET TRANSITION K`, with K from 1 to 10^18, by this limit
abbrev pub date_asked : List (List ℕ) → Option ℕ → Option Request
date_asked (net ∷ word ∷ count ∷ []) most = option_map (λ number. OfNet (Asks (DateNet word number most)) net) (number_of_word 1 greatest_firing_number count)
date_asked rest most = None

-- `timetable NET A FILE`, with A from 1 to 10^6, by this limit
abbrev pub timetable_asked : List (List ℕ) → Option ℕ → Option Request
timetable_asked (net ∷ word ∷ table ∷ []) most = option_map (λ period. OfFiles (TimetableNet period most) net table) (number_of_word 1 greatest_period word)
timetable_asked rest most = None

-- `trial N`, with N from 1 to 400
abbrev pub trial_asked : List (List ℕ) → Option Request
trial_asked (count ∷ []) = option_map (λ machines. TrialOf machines) (number_of_word 1 most_machines count)
trial_asked rest = None

-- whether a byte is `/`
abbrev pub is_slash : ℕ → Bool
is_slash byte = byte == 47

-- the time and the tokens of a target ratio: a number, `/`, and a number from 1 on
abbrev pub target_asked : List ℕ → Option (ℕ × ℕ)
target_asked word =
    option_and_then (λ time. option_map (λ tokens. (time, tokens)) (number_of_word 1 most_target_tokens (after_first is_slash word)))
    (number_of_word 0 greatest_target_time (before_first is_slash word))

-- `size NET PLACE A/B`
abbrev pub size_asked : List (List ℕ) → Option Request
size_asked (net ∷ word ∷ target ∷ []) = option_map (λ ratio. OfNet (Asks (SizeNet word ratio)) net) (target_asked target)
size_asked rest = None

-- `calc EXPR`, with an expression of at most 4,096 bytes
abbrev pub calc_asked : List (List ℕ) → Option Request
calc_asked (text ∷ []) = if nat_le (length text) most_expression then Some (ValueOf text) else None
calc_asked rest = None

-- the request of a command that takes no option; nothing for a word that is no command
abbrev pub plain_asked : List ℕ → List (List ℕ) → Option Request
plain_asked command rest =
    if bytes_eq command (codes "check") then only_net CheckNet rest
    else (if bytes_eq command (codes "form") then only_net FormNet rest
    else (if bytes_eq command (codes "slack") then only_net SlackNet rest
    else (if bytes_eq command (codes "migrate") then only_net MigrateNet rest
    else (if bytes_eq command (codes "bound") then only_net BoundNet rest
    else (if bytes_eq command (codes "jit") then net_and_file JitNet rest
    else (if bytes_eq command (codes "replay") then net_and_file ReplayNet rest
    else (if bytes_eq command (codes "forever") then net_and_file ForeverNet rest
    else (if bytes_eq command (codes "list") then list_asked rest
    else (if bytes_eq command (codes "size") then size_asked rest
    else (if bytes_eq command (codes "calc") then calc_asked rest
    else (if bytes_eq command (codes "trial") then trial_asked rest
    else None)))))))))))

-- the request of a command with `--limit N` or `--limit none`, or without; of one that takes no limit where none is given
abbrev pub limited_asked : List ℕ → List (List ℕ) → Option (List ℕ) → Option Request
limited_asked command rest limit =
    if bytes_eq command (codes "dates") then option_and_then (λ most. only_net (DatesNet most) rest) (limit_asked limit)
    else (if bytes_eq command (codes "date") then option_and_then (date_asked rest) (limit_asked limit)
    else (if bytes_eq command (codes "timetable") then option_and_then (timetable_asked rest) (limit_asked limit)
    else (if bytes_eq command (codes "transfer") then option_and_then (λ most. only_net (TransferNet most) rest) (number_limit limit)
    else (if is_some limit then None else plain_asked command rest))))

-- the request of a command with what is given to it; `--rounds` goes with `cycle` alone
abbrev pub asked_for : Given → Option Request
asked_for given =
    if bytes_eq given.command (codes "cycle") then (if is_some given.limit then None else only_net (CycleNet given.rounds) given.rest)
    else (if given.rounds then None else limited_asked given.command given.rest given.limit)

-- the request that the words give, if they give one
abbrev pub request_of : List (List ℕ) → Option Request
request_of words = option_and_then asked_for (given_of words)

-- what the second file is for
abbrev pub second_of : FileCommand → Which
second_of JitNet = DueFile
second_of ReplayNet = LogFile
second_of ForeverNet = DueFile
second_of (TimetableNet period limit) = TimetableFile

-- the files that a request names, in the order in which they are read: what each is for, and its name
abbrev pub files_of : Request → List (Which × List ℕ)
files_of (OfNet command net) = (NetFile, net) ∷ []
files_of (OfFiles command net second) = (NetFile, net) ∷ (second_of command, second) ∷ []
files_of (ValueOf text) = []
files_of (TrialOf machines) = []

-- the files that the words name
abbrev pub asked_files : Option Request → List (Which × List ℕ)
asked_files None = []
asked_files (Some request) = files_of request
