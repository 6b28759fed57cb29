-- Working definitions of the first step of a latest date as a step of a walk.
use Rattle.std.specs.Prelude.{◌≡◌, Option, Some, None}
use Rattle.teg_net.specs.declared.walks.Step.{Step}
use Rattle.teg_net.specs.declared.walks.Step.TheVariants.{By as by_place, Next as to_next}
use Rattle.teg_jit.specs.declared.answers.Onward.{Onward}
use Rattle.teg_jit.specs.declared.answers.Onward.TheVariants.{Due, By, Next}
use Rattle.teg_jit.specs.declared.answers.LatestDate.{LatestDate}
use Rattle.teg_jit.specs.declared.answers.LatestDate.TheVariants.{Free, At}

-- the step of a walk that a first step is; none where the firing is due
abbrev pub first_step_of : Onward → Option Step
first_step_of Due = None
first_step_of (By p) = Some (by_place p)
first_step_of Next = Some to_next

-- the step is the first step of the latest date; none where it is free
abbrev pub IsFirstStep : LatestDate → Option Step → Type 0
IsFirstStep Free step = step ≡ None
IsFirstStep (At d onward) step = step ≡ first_step_of onward
