-- Working definitions of how an entry is added behind others: entries of one kind, those of the same ends and tokens,
-- become one.
use Rattle.std.specs.Prelude.{◌-◌, ◌<◌, ◌≤◌, ◌≡◌, ◌⊎◌, List, [], ◌∷◌, ◌++◌, length, slice_index_or, slice_set}
use Rattle.teg_form.specs.declared.entries.Entry.{Entry}

-- the two entries have the same ends and the same tokens
abbrev pub IsOfKind : Entry → Entry → Type 0
IsOfKind e f = (e.to.index ≡ f.to.index) × (e.from.index ≡ f.from.index) × (e.tokens ≡ f.tokens)

-- what stands where there is no entry
abbrev pub no_entry : Entry
no_entry = record { to = record { index = 0 }; from = record { index = 0 }; tokens = 0; time = 0 }

-- the last entry
abbrev pub last_entry : List Entry → Entry
last_entry entries = slice_index_or entries (length entries - 1) no_entry

-- the entry stands behind the others, of which the last is of another kind
pub record IsBehind (old : List Entry) (e : Entry) (new : List Entry) : Type 0 where
  pub is : new ≡ old ++ e ∷ []
  pub other_kind : 0 < length old → IsOfKind (last_entry old) e → ⊥

-- the entry took the place of the last, which is of its kind, or is no later than it
pub record IsMerged (old : List Entry) (e : Entry) (new : List Entry) : Type 0 where
  pub some : 0 < length old
  pub kind : IsOfKind (last_entry old) e
  pub is : ((new ≡ slice_set old (length old - 1) e) × ((last_entry old).time ≤ e.time)) ⊎ ((new ≡ old) × (e.time ≤ (last_entry old).time))

-- either of the two
abbrev pub IsAdded : List Entry → Entry → List Entry → Type 0
IsAdded old e new = IsBehind old e new ⊎ IsMerged old e new
