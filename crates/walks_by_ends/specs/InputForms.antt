-- Working definitions of the form that is told of an input, by rows of its own or by ends.
use Rattle.teg_settle.specs.settled_laws.SettledForms.{SettledForm}
use Rattle.walks_by_ends.specs.declared.inputs.Kind.{Kind}
use Rattle.walks_by_ends.specs.declared.inputs.Kind.TheVariants.{Own, ByEnds}

-- the form
abbrev pub form_of : Kind → SettledForm
form_of (Own f) = f
form_of (ByEnds f) = f
