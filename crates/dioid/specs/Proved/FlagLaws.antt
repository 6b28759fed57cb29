-- The laws of the Boolean dioid.
use Rattle.std.proofs.Common.{◌≡◌, ◌↔◌, refl}
use Rattle.std.specs.Prelude.{⊤}
use Rattle.dioid.specs.Flags.{flag_or, flag_and, flag_left}
use Rattle.dioid.specs.DioidAxioms.{IsAtMost, IsClosed, DioidLaws, StarLaws, ResidualLaws}
use Rattle.dioid.specs.declared.flags.Flag.{Flag}
use Rattle.dioid.specs.declared.flags.Flag.TheVariants.{No, Yes}

-- each truth value is an element
abbrev pub any_flag : Flag → Type 0
any_flag _ = ⊤

pub flags_closed : IsClosed any_flag No Yes flag_or flag_and
flags_closed = record { zero_is = tt; one_is = tt; sum_is = λ a b _ _. tt; product_is = λ a b _ _. tt }

or_assoc : (a b c : Flag) → flag_or (flag_or a b) c ≡ flag_or a (flag_or b c)
or_assoc No b c = refl
or_assoc Yes b c = refl

or_commutes : (a b : Flag) → flag_or a b ≡ flag_or b a
or_commutes No No = refl
or_commutes No Yes = refl
or_commutes Yes No = refl
or_commutes Yes Yes = refl

or_idempotent : (a : Flag) → flag_or a a ≡ a
or_idempotent No = refl
or_idempotent Yes = refl

and_assoc : (a b c : Flag) → flag_and (flag_and a b) c ≡ flag_and a (flag_and b c)
and_assoc No b c = refl
and_assoc Yes b c = refl

and_or : (a b c : Flag) → flag_and a (flag_or b c) ≡ flag_or (flag_and a b) (flag_and a c)
and_or No b c = refl
and_or Yes b c = refl

or_and : (a b c : Flag) → flag_and (flag_or a b) c ≡ flag_or (flag_and a c) (flag_and b c)
or_and No b c = refl
or_and Yes No No = refl
or_and Yes No Yes = refl
or_and Yes Yes No = refl
or_and Yes Yes Yes = refl

and_no : (a : Flag) → flag_and a No ≡ No
and_no No = refl
and_no Yes = refl

and_yes : (a : Flag) → flag_and a Yes ≡ a
and_yes No = refl
and_yes Yes = refl

pub flag_laws : DioidLaws any_flag No Yes flag_or flag_and
flag_laws = record {
  sum_assoc = λ a b c _ _ _. or_assoc a b c;
  sum_commutes = λ a b _ _. or_commutes a b;
  sum_idempotent = λ a _. or_idempotent a;
  product_assoc = λ a b c _ _ _. and_assoc a b c;
  left_distributes = λ a b c _ _ _. and_or a b c;
  right_distributes = λ a b c _ _ _. or_and a b c;
  zero_neutral = λ a _. refl;
  zero_absorbs_left = λ a _. refl;
  zero_absorbs_right = λ a _. and_no a;
  one_neutral_left = λ a _. refl;
  one_neutral_right = λ a _. and_yes a;
}

flag_star_solves : (a b : Flag) → IsAtMost flag_or (flag_or (flag_and a b) b) b
flag_star_solves No b = or_idempotent b
flag_star_solves Yes No = refl
flag_star_solves Yes Yes = refl

flag_star_least : (a b x : Flag) → IsAtMost flag_or (flag_or (flag_and a x) b) x → IsAtMost flag_or b x
flag_star_least No b x h = h
flag_star_least Yes No x h = refl
flag_star_least Yes Yes No h = h
flag_star_least Yes Yes Yes h = refl

pub flag_star_laws : StarLaws any_flag flag_or flag_and (λ _. Yes)
flag_star_laws = record {
  star_is = λ a _. tt;
  solves = λ a b _ _. flag_star_solves a b;
  least = λ a b x _ _ _ h. flag_star_least a b x h;
}

flag_galois : (a x b : Flag) → IsAtMost flag_or (flag_and a x) b ↔ IsAtMost flag_or x (flag_left a b)
flag_galois No No b = (λ _. refl, λ _. refl)
flag_galois No Yes b = (λ _. refl, λ _. refl)
flag_galois Yes x b = (λ h. h, λ h. h)

flag_meet : (x a b : Flag) → IsAtMost flag_or x (flag_and a b) ↔ (IsAtMost flag_or x a × IsAtMost flag_or x b)
flag_meet No a b = (λ _. (refl, refl), λ _. refl)
flag_meet Yes No b = (λ h. (h, cc), λ h. h.0)
flag_meet Yes Yes b = (λ h. (refl, h), λ h. h.1)

pub flag_residual_laws : ResidualLaws any_flag flag_or flag_and flag_left flag_and
flag_residual_laws = record {
  left_is = λ a b _ _. tt;
  meet_is = λ a b _ _. tt;
  galois = λ a x b _ _ _. flag_galois a x b;
  meet_greatest = λ x a b _ _ _. flag_meet x a b;
}
