-- The Boolean dioid: the truth values with "or" and "and".
use Rattle.dioid.specs.declared.flags.Flag.{Flag}
use Rattle.dioid.specs.declared.flags.Flag.TheVariants.{No, Yes}

-- Yes where one of the two is Yes
abbrev pub flag_or : Flag → Flag → Flag
flag_or No b = b
flag_or Yes b = Yes

-- Yes where both are Yes
abbrev pub flag_and : Flag → Flag → Flag
flag_and No b = No
flag_and Yes b = b

-- the greatest flag whose "and" with a is at most b
abbrev pub flag_left : Flag → Flag → Flag
flag_left No b = Yes
flag_left Yes b = b
