-- Whether two entries of forms are equal, as code tests it.
use Rattle.std.proofs.Common.{◌≡◌, rules}
use Rattle.std.specs.Bool.{Decides}
use Rattle.teg_form.specs.declared.stars.StarEntry.{StarEntry}
use Rattle.teg_form.specs.declared.entries.Entry.{Entry}
use Rattle.teg_form.specs.contracts.stars.StarEntryPartialEq.TheImpl.{eq-value as star_eq}
use Rattle.teg_form.specs.contracts.entries.EntryPartialEq.TheImpl.{eq-value as entry_eq}

-- the test of two star entries decides whether they are equal
pub star_Decides : (a b : StarEntry) → Decides (star_eq.it a b) (a ≡ b)
star_Decides a b = search rules

-- the test of two entries does too
pub entry_Decides : (a b : Entry) → Decides (entry_eq.it a b) (a ≡ b)
entry_Decides a b = search rules
