-- The limits of the workbench itself.
use Rattle.std.specs.Prelude.{ℕ}

-- how long a settled form may be where no limit is given
abbrev pub usual_limit : ℕ
usual_limit = 20000
