-- Dates and flags commute in products.
use Rattle.std.proofs.Common.{◌≡◌, refl, ap, arith}
use Rattle.std.proofs.lemmas.Int.{ints}
use Rattle.dioid.specs.Dates.{date_product}
use Rattle.dioid.specs.Flags.{flag_and}
use Rattle.dioid.specs.declared.dates.Date.{Date}
use Rattle.dioid.specs.declared.dates.Date.TheVariants.{Early, At, Never}
use Rattle.dioid.specs.declared.flags.Flag.{Flag}
use Rattle.dioid.specs.declared.flags.Flag.TheVariants.{No, Yes}

pub date_products_commute : (a b : Date) → date_product a b ≡ date_product b a
date_products_commute Early Early = refl
date_products_commute Early (At t) = refl
date_products_commute Early Never = refl
date_products_commute (At s) Early = refl
date_products_commute (At s) (At t) = ap At (omega (arith, ints))
date_products_commute (At s) Never = refl
date_products_commute Never Early = refl
date_products_commute Never (At t) = refl
date_products_commute Never Never = refl

pub flag_products_commute : (a b : Flag) → flag_and a b ≡ flag_and b a
flag_products_commute No No = refl
flag_products_commute No Yes = refl
flag_products_commute Yes No = refl
flag_products_commute Yes Yes = refl
