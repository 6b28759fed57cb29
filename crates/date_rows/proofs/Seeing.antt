-- The dates that a pass sees: those of its own row, and those so many rows back.
use Rattle.std.proofs.Common.{ℕ, ◌-◌, ◌<◌, ◌≤◌, ◌≡◌, true, false, List, get_or, refl, arith}
use Rattle.std.specs.Prelude.{nat_lt}
use Rattle.std.proofs.lemmas.Bool.Decides.{nat_tests}
use Rattle.dioid.specs.declared.dates.Date.{Date}
use Rattle.dioid.specs.declared.dates.Date.TheVariants.{Early}
use Rattle.teg_model.proofs.DateFunctions.{Dating}
use Rattle.date_rows.specs.Passes.{seen_at}

pub seen_here : (back : Dating) (row : List Date) (k t : ℕ) → seen_at back row k t k ≡ get_or row t Early
seen_here back row k t =
    let test : nat_lt k k ≡ false = grind (arith, nat_tests) in
    rw test refl

pub seen_before : (back : Dating) (row : List Date) (k t b : ℕ) → 1 ≤ b → b < k → seen_at back row k t (k - b) ≡ back t b
seen_before back row k t b o l =
    let test : nat_lt (k - b) k ≡ true = grind (arith, nat_tests) in
    let far : k - (k - b) ≡ b = omega arith in
    rw (test, far) refl
