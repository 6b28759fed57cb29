-- The order of dates as a fact from which both dates can be read, so that its lemmas need no dates written out.
use Rattle.std.proofs.Common.{◌≡◌, ℤ, pos, ◌-ℤ◌}
use Rattle.std.specs.Prelude.{◌≤ℤ◌}
use Rattle.std.specs.Int.Signed.{≤ℤ_refl}
use Rattle.dioid.specs.Dates.{later_of, earlier_of, date_product, move}
use Rattle.dioid.specs.DateOrder.{Le}
use Rattle.dioid.specs.declared.dates.Date.{Date}
use Rattle.dioid.specs.declared.dates.Date.TheVariants.{Early, Never}
use Rattle.dioid.proofs.DateOrder.{at_most_refl, at_most_is, at_most_trans, same_by_at_most, never_last, at_most_early, at_least_never, later_left}
use Rattle.dioid.proofs.DateOrder.{later_right, later_least, earlier_left, earlier_right, earlier_greatest, product_rises}
use Rattle.dioid.proofs.Moves.{move_rises, move_back, move_forth}

pub le_refl : (a : Date) → Le a a
le_refl a = record { holds = at_most_refl a }

pub le_is : {a b : Date} → a ≡ b → Le a b
le_is {a} {b} e = record { holds = at_most_is a b e }

pub le_trans : {a b c : Date} → Le a b → Le b c → Le a c
le_trans {a} {b} {c} h k = record { holds = at_most_trans a b c h.holds k.holds }

pub le_antisym : {a b : Date} → Le a b → Le b a → a ≡ b
le_antisym {a} {b} h k = same_by_at_most a b h.holds k.holds

pub early_le : (a : Date) → Le Early a
early_le a = record { holds = tt }

pub le_never : (a : Date) → Le a Never
le_never a = record { holds = never_last a }

-- what is at most Early is Early, and what Never is at most is Never
pub le_early : {a : Date} → Le a Early → a ≡ Early
le_early {a} h = at_most_early a h.holds

pub never_le : {a : Date} → Le Never a → a ≡ Never
never_le {a} h = at_least_never a h.holds

-- ---- the later and the earlier date

pub le_later_left : (a b : Date) → Le a (later_of a b)
le_later_left a b = record { holds = later_left a b }

pub le_later_right : (a b : Date) → Le b (later_of a b)
le_later_right a b = record { holds = later_right a b }

pub later_le : {a b c : Date} → Le a c → Le b c → Le (later_of a b) c
later_le {a} {b} {c} h k = record { holds = later_least a b c h.holds k.holds }

pub later_commutes : (a b : Date) → later_of a b ≡ later_of b a
later_commutes a b = le_antisym (later_le (le_later_right b a) (le_later_left b a)) (later_le (le_later_right a b) (le_later_left a b))

pub earlier_le_left : (a b : Date) → Le (earlier_of a b) a
earlier_le_left a b = record { holds = earlier_left a b }

pub earlier_le_right : (a b : Date) → Le (earlier_of a b) b
earlier_le_right a b = record { holds = earlier_right a b }

pub le_earlier : {a b c : Date} → Le c a → Le c b → Le c (earlier_of a b)
le_earlier {a} {b} {c} h k = record { holds = earlier_greatest a b c h.holds k.holds }

pub earlier_commutes : (a b : Date) → earlier_of a b ≡ earlier_of b a
earlier_commutes a b = le_antisym (le_earlier (earlier_le_right a b) (earlier_le_left a b)) (le_earlier (earlier_le_right b a) (earlier_le_left b a))

-- ---- products and moves

pub product_le : {a b c d : Date} → Le a b → Le c d → Le (date_product a c) (date_product b d)
product_le {a} {b} {c} {d} h k = record { holds = product_rises a b c d h.holds k.holds }

pub move_le : {a b : Date} (x : ℤ) → Le a b → Le (move x a) (move x b)
move_le {a} {b} x h = record { holds = move_rises x x a b (≤ℤ_refl x) h.holds }

pub move_le_back : {a b : Date} (x : ℤ) → Le (move x a) (move x b) → Le a b
move_le_back {a} {b} x h = rw (move_forth x a, move_forth x b) at (move_le (pos 0 -ℤ x) h)

pub move_further : {x y : ℤ} (a : Date) → x ≤ℤ y → Le (move x a) (move y a)
move_further {x} {y} a h = record { holds = move_rises x y a a h (at_most_refl a) }

pub le_move_back : {a c : Date} (x : ℤ) → Le (move x a) c → Le a (move (pos 0 -ℤ x) c)
le_move_back {a} {c} x h = rw (move_forth x a) at (move_le (pos 0 -ℤ x) h)

pub le_move_over : {a c : Date} (x : ℤ) → Le a (move (pos 0 -ℤ x) c) → Le (move x a) c
le_move_over {a} {c} x h = rw (move_back x c) at (move_le x h)
