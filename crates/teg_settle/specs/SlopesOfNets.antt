-- The slopes of a net's settled form (chapter 3).
use Rattle.std.specs.Prelude.{ℕ, ◌<◌, length}
use Rattle.dioid.specs.declared.dates.Date.{Date}
use Rattle.teg_net.specs.Nets.{NetLists}
use Rattle.periodic_laws.specs.teg_model.Datings.{IsLeastDating}
use Rattle.periodic_laws.specs.settled_laws.SettledForms.{SettledForm, step_of_form, StandsFor}
use Rattle.slope_laws.specs.Slopes.{HasSlope}

-- the form stands for the least dating of the net, and each transition has its slope: its last dates are never exactly where
-- an input list that ends reaches it, and otherwise its step over the period is the greatest of 0, the ratios of the circuits
-- from which a path leads to it, and gap over `every` of the lists that go on and reach it
abbrev pub HasSlopes : NetLists → SettledForm → Type 0
HasSlopes net f =
    (x : ℕ → ℕ → Date) × IsLeastDating net x × StandsFor (length net.transitions) f x
    × ((t : ℕ) → t < length net.transitions → HasSlope net (x t) t f.after f.period (step_of_form f t))
