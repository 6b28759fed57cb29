-- Working definitions of the settled forms of the times of walks from ends of places.
use Rattle.std.specs.Prelude.{ℕ, ◌<◌, ◌≡◌, List, [], length, get_or, slice_index_or, ⊤}
use Rattle.dioid.specs.declared.dates.Date.{Date}
use Rattle.teg_net.specs.Nets.{NetLists}
use Rattle.teg_settle.specs.settled_laws.SettledForms.{SettledForm, settled_date, step_of_form}
use Rattle.teg_settle.specs.settled_forms.KeptForms.{IsFormKept}
use Rattle.own_period_laws.specs.OwnPeriods.{GoesOn}
use Rattle.end_laws.specs.Ends.{AreTimesFromEnd, IsInner}
use Rattle.walks_by_ends.specs.declared.ends.End.{End}
use Rattle.walks_by_ends.specs.declared.ends.End.TheVariants.{Open, Kept, Dear}

-- the form of the times of walks from transition e, which go on by a step from each number to the next
pub record IsEndForm (net : NetLists) (e : ℕ) (f : SettledForm) : Type 0 where
  pub wide : length f.rows ≡ length net.transitions
  pub kept : IsFormKept f
  pub times : AreTimesFromEnd net e (settled_date f)
  pub goes_on : (t : ℕ) → t < length net.transitions → GoesOn (settled_date f t) f.after 1 (step_of_form f t)

-- forms, and for each transition what is known of it
pub record EndForms : Type 0 where
  pub forms : List SettledForm
  pub ends : List End

-- with these parts
abbrev pub end_forms : List SettledForm → List End → EndForms
end_forms forms ends = record { forms = forms; ends = ends }

-- no form
abbrev pub no_form : SettledForm
no_form = record { after = 0; period = 0; rows = []; steps = [] }

-- the form that is kept
abbrev pub form_at : List SettledForm → End → SettledForm
form_at forms Open = no_form
form_at forms (Kept i) = get_or forms i no_form
form_at forms Dear = no_form

-- what is said to stand in the list stands there
abbrev pub IsSoundAt : List SettledForm → End → Type 0
IsSoundAt forms Open = ⊤
IsSoundAt forms (Kept i) = i < length forms
IsSoundAt forms Dear = ⊤

-- whether one is kept
abbrev pub IsKeptAt : List SettledForm → End → Type 0
IsKeptAt forms Open = ⊥
IsKeptAt forms (Kept i) = i < length forms
IsKeptAt forms Dear = ⊥

-- the same of transition e
abbrev pub end_form : EndForms → ℕ → SettledForm
end_form a e = form_at a.forms (slice_index_or a.ends e Open)

-- the form of transition e is kept
abbrev pub IsKeptEnd : EndForms → ℕ → Type 0
IsKeptEnd a e = IsKeptAt a.forms (slice_index_or a.ends e Open)

-- the times that it tells
abbrev pub times_from_end : EndForms → ℕ → ℕ → ℕ → Date
times_from_end a e t k = settled_date (end_form a e) t k

-- something is known of each transition of the net, and the forms that are kept are those of the times from there
pub record AreEndsOf (net : NetLists) (a : EndForms) : Type 0 where
  pub wide : length a.ends ≡ length net.transitions
  pub sound : (e : ℕ) → e < length net.transitions → IsSoundAt a.forms (slice_index_or a.ends e Open)
  pub each : (e : ℕ) → e < length net.transitions → IsKeptEnd a e → IsEndForm net e (end_form a e)
