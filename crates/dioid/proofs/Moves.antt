-- Dates moved by whole numbers.
use Rattle.std.proofs.Common.{ℕ, ℤ, pos, ◌≡◌, refl, sym, ap, ◌∙◌, arith, inl, inr, ⊎_elim, ◌+ℤ◌, ◌-ℤ◌}
use Rattle.std.specs.Prelude.{◌≤ℤ◌, ◌⊎◌}
use Rattle.std.proofs.lemmas.Int.{ints, clamps}
use Rattle.dioid.specs.Dates.{IsAtMostDate, later_of, earlier_of, delayed, move, date_product, date_left}
use Rattle.dioid.specs.declared.dates.Date.{Date}
use Rattle.dioid.specs.declared.dates.Date.TheVariants.{Early, At, Never}

pub at_inj : (s t : ℤ) → At s ≡ At t → s ≡ t
at_inj s t e = cc

-- ---- one move after another

pub move_zero : (a : Date) → move (pos 0) a ≡ a
move_zero Early = refl
move_zero (At s) = ap At (omega (arith, ints))
move_zero Never = refl

pub move_move : (x y : ℤ) (a : Date) → move y (move x a) ≡ move (x +ℤ y) a
move_move x y Early = refl
move_move x y (At s) = ap At (omega (arith, ints))
move_move x y Never = refl

pub move_swap : (x y : ℤ) (a : Date) → move x (move y a) ≡ move y (move x a)
move_swap x y a = move_move y x a ∙ ap (λ (z : ℤ). move z a) (omega (arith, ints)) ∙ sym (move_move x y a)

pub move_back : (x : ℤ) (a : Date) → move x (move (pos 0 -ℤ x) a) ≡ a
move_back x Early = refl
move_back x (At s) = ap At (omega (arith, ints))
move_back x Never = refl

pub move_forth : (x : ℤ) (a : Date) → move (pos 0 -ℤ x) (move x a) ≡ a
move_forth x Early = refl
move_forth x (At s) = ap At (omega (arith, ints))
move_forth x Never = refl

pub move_injective : (x : ℤ) (a b : Date) → move x a ≡ move x b → a ≡ b
move_injective x a b h = sym (move_forth x a) ∙ ap (move (pos 0 -ℤ x)) h ∙ move_forth x b

-- a moved by x is b moved by y: a is b moved by the difference
pub move_between : (x y : ℤ) (a b : Date) → move x a ≡ move y b → a ≡ move (y -ℤ x) b
move_between x y a b h =
    sym (move_forth x a) ∙ ap (move (pos 0 -ℤ x)) h ∙ move_move y (pos 0 -ℤ x) b
    ∙ ap (λ (z : ℤ). move z b) (omega (arith, ints))

-- two moves that agree at one date are equal, or the date is no number
pub same_move : (x y : ℤ) (a : Date) → move x a ≡ move y a → (x ≡ y) ⊎ ((a ≡ Early) ⊎ (a ≡ Never))
same_move x y Early h = inr (inl refl)
same_move x y (At s) h = let e : s +ℤ x ≡ s +ℤ y = at_inj _ _ h in inl (omega (arith, ints))
same_move x y Never h = inr (inr refl)

pub moved_to_never : (x : ℤ) (a : Date) → move x a ≡ Never → a ≡ Never
moved_to_never x a h = move_injective x a Never h

-- ---- the order

pub move_rises : (x y : ℤ) (a b : Date) → x ≤ℤ y → IsAtMostDate a b → IsAtMostDate (move x a) (move y b)
move_rises x y Early b l h = tt
move_rises x y (At s) Early l h = absurd h
move_rises x y (At s) (At t) l h = omega (arith, ints)
move_rises x y (At s) Never l h = tt
move_rises x y Never Early l h = absurd h
move_rises x y Never (At t) l h = absurd h
move_rises x y Never Never l h = tt

-- a at most b, and both moved are one date: where b is moved by no less, or one of them is no number, they are so after a
-- further move
pub moved_again : (x y : ℤ) (a b : Date) → IsAtMostDate a b → (x ≤ℤ y) ⊎ ((b ≡ Never) ⊎ (a ≡ Early)) → move y b ≡ move x a → move y (move y b) ≡ move x (move x a)
moved_again x y Early b l r h = ap (move y) h
moved_again x y (At s) Early l r h = absurd l
moved_again x y (At s) (At t) l r h =
    let e : t +ℤ y ≡ s +ℤ x = at_inj _ _ h in
    ⊎_elim
    (λ (q : x ≤ℤ y). ap At (omega (arith, ints)))
    (λ (q : (At t ≡ Never) ⊎ (At s ≡ Early)). ⊎_elim (λ (z : At t ≡ Never). absurd (cc)) (λ (z : At s ≡ Early). absurd (cc)) q)
    r
moved_again x y (At s) Never l r h = absurd (cc)
moved_again x y Never b l r h = ap (move y) h

-- ---- moves and the operations

pub later_move : (x : ℤ) (a b : Date) → later_of (move x a) (move x b) ≡ move x (later_of a b)
later_move x Early b = refl
later_move x (At s) Early = refl
later_move x (At s) (At t) = ap At (omega (arith, ints, clamps))
later_move x (At s) Never = refl
later_move x Never b = refl

pub earlier_move : (x : ℤ) (a b : Date) → earlier_of (move x a) (move x b) ≡ move x (earlier_of a b)
earlier_move x Early b = refl
earlier_move x (At s) Early = refl
earlier_move x (At s) (At t) = ap At (omega (arith, ints, clamps))
earlier_move x (At s) Never = refl
earlier_move x Never b = refl

-- a delay is a move by a number of 0 or more
pub delayed_is_move : (h : ℕ) (a : Date) → delayed h a ≡ move (pos h) a
delayed_is_move h Early = refl
delayed_is_move h (At s) = refl
delayed_is_move h Never = refl

pub delayed_move : (h : ℕ) (x : ℤ) (a : Date) → delayed h (move x a) ≡ move x (delayed h a)
delayed_move h x Early = refl
delayed_move h x (At s) = ap At (omega (arith, ints))
delayed_move h x Never = refl

pub product_move_left : (x : ℤ) (a b : Date) → date_product (move x a) b ≡ move x (date_product a b)
product_move_left x Early b = refl
product_move_left x (At s) Early = refl
product_move_left x (At s) (At t) = ap At (omega (arith, ints))
product_move_left x (At s) Never = refl
product_move_left x Never Early = refl
product_move_left x Never (At t) = refl
product_move_left x Never Never = refl

pub product_move_right : (x : ℤ) (a b : Date) → date_product a (move x b) ≡ move x (date_product a b)
product_move_right x Early b = refl
product_move_right x (At s) Early = refl
product_move_right x (At s) (At t) = ap At (omega (arith, ints))
product_move_right x (At s) Never = refl
product_move_right x Never Early = refl
product_move_right x Never (At t) = refl
product_move_right x Never Never = refl

-- the product with a number is a move
pub product_is_move : (x : ℤ) (a : Date) → date_product (At x) a ≡ move x a
product_is_move x Early = refl
product_is_move x (At s) = ap At (omega (arith, ints))
product_is_move x Never = refl

pub left_move : (x : ℤ) (a b : Date) → date_left a (move x b) ≡ move x (date_left a b)
left_move x Early b = refl
left_move x (At s) Early = refl
left_move x (At s) (At t) = ap At (omega (arith, ints))
left_move x (At s) Never = refl
left_move x Never Early = refl
left_move x Never (At t) = refl
left_move x Never Never = refl

-- a residual by a later date is moved back
pub left_of_move : (x y : ℤ) (a b : Date) → date_left (move x a) (move y b) ≡ move (y -ℤ x) (date_left a b)
left_of_move x y Early b = refl
left_of_move x y (At s) Early = refl
left_of_move x y (At s) (At t) = ap At (omega (arith, ints))
left_of_move x y (At s) Never = refl
left_of_move x y Never Early = refl
left_of_move x y Never (At t) = refl
left_of_move x y Never Never = refl
