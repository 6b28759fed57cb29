-- How each key is written.
use Rattle.std.specs.Prelude.{ℕ, List, codes}
use Rattle.teg_reader.specs.declared.keys.Key.{Key}
use Rattle.teg_reader.specs.declared.keys.Key.TheVariants.{Version, Transition, Place, Input, Name, Role, Duration, From, To, Hold, Tokens, Ready, Dates, Every, Gap}

-- the text of a key
unfoldable pub key_text : Key → List ℕ
key_text Version = codes "version"
key_text Transition = codes "transition"
key_text Place = codes "place"
key_text Input = codes "input"
key_text Name = codes "name"
key_text Role = codes "role"
key_text Duration = codes "duration"
key_text From = codes "from"
key_text To = codes "to"
key_text Hold = codes "hold"
key_text Tokens = codes "tokens"
key_text Ready = codes "ready"
key_text Dates = codes "dates"
key_text Every = codes "every"
key_text Gap = codes "gap"
