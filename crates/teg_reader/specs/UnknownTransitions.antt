-- The ninth pass: texts that name no transition.
use Rattle.std.specs.Prelude.{ℕ, not, List, [], ◌∷◌, Option, None, option_map, find}
use Rattle.toml.specs.Data.{Data}
use Rattle.teg_reader.specs.declared.keys.Key.TheVariants as key
use Rattle.teg_reader.specs.declared.refusals.Section.{Section}
use Rattle.teg_reader.specs.declared.refusals.Section.TheVariants as section
use Rattle.teg_reader.specs.declared.refusals.ReadRefusal.TheVariants as refusal
use Rattle.teg_reader.specs.TextLists.{is_among}
use Rattle.teg_reader.specs.DocumentTrees.{text_at, texts_at, or_else}
use Rattle.teg_reader.specs.PassWalks.{Look}

-- the first of the texts that is none of the names
unfoldable pub unknown_among : List (List ℕ) → List (List ℕ) → Option (List ℕ)
unknown_among names texts = find (λ t. not (is_among names t)) texts

-- the first text of the entry that is to name a transition and names none: in `from`, then in `to`, or in `transition`
unfoldable pub unknown_text : List (List ℕ) → Section → Data → Option (List ℕ)
unknown_text names section.Place d = or_else (unknown_among names (texts_at key.From d)) (unknown_among names (texts_at key.To d))
unknown_text names section.Input d = unknown_among names (text_at key.Transition d ∷ [])
unknown_text names _ d = None

-- the entry has a text that names no transition
unfoldable pub unknown_transition : List (List ℕ) → Look
unknown_transition names spot d = option_map (λ t. refusal.UnknownTransition spot t) (unknown_text names spot.section d)
