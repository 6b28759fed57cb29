-- The keys that each table may have, and what may stand there.
use Rattle.std.specs.Prelude.{Bool, true, false, List, [], ◌∷◌}
use Rattle.teg_reader.specs.declared.keys.Key.TheVariants as key
use Rattle.teg_reader.specs.declared.refusals.Section.{Section}
use Rattle.teg_reader.specs.declared.refusals.Section.TheVariants as section
use Rattle.teg_reader.specs.declared.fields.Kind.{Kind}
use Rattle.teg_reader.specs.declared.fields.Kind.TheVariants.{Text, Integer, Texts, Integers, Tables}
use Rattle.teg_reader.specs.declared.keys.Key.{Key}
use Rattle.teg_reader.specs.declared.fields.Field.{Field}

-- what may stand at one key
abbrev field : Key → Kind → Bool → Field
field key kind needed = record { 0 = key; 1 = kind; 2 = needed }

-- the keys of a section's tables in the second version, in the order in which they are looked at
unfoldable pub fields_of : Section → List Field
fields_of section.Top = field key.Version Integer false ∷ field key.Transition Tables false ∷ field key.Place Tables false ∷ field key.Input Tables false ∷ []
fields_of section.Transition = field key.Name Text true ∷ field key.Role Text false ∷ field key.Duration Integer false ∷ []
fields_of section.Place = field key.Name Text true ∷ field key.From Texts true ∷ field key.To Texts true ∷ field key.Hold Integer
    false ∷ field key.Tokens Integer false ∷ field key.Ready Integers false ∷ []
fields_of section.Input = field key.Transition Text true ∷ field key.Dates Integers true ∷ field key.Every Integer false ∷ field key.Gap Integer false ∷ []

-- the keys that a section's tables list: a transition has a duration in files of the second version only
unfoldable pub listed_fields : Bool → Section → List Field
listed_fields false section.Transition = field key.Name Text true ∷ field key.Role Text false ∷ []
listed_fields _ section = fields_of section
