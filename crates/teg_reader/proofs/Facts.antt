-- Small facts of truth values, numbers and texts.
use Rattle.std.proofs.Common.{◌≡◌, ◌≢◌, ℕ, ◌+◌, ◌-◌, ◌≤◌, ◌==◌, Bool, true, false, not, ◌&&◌, ◌||◌, nat_le, List, bytes_eq, sym, ◌∙◌, arith}
use Rattle.std.proofs.lemmas.Bool.{false≢true}
use Rattle.std.proofs.lemmas.Bool.Decides.{nat_tests}
use Rattle.std.proofs.lemmas.Slice.Eq.{bytes_eq-Decides}

pub negated : (b : Bool) → not b ≡ true → b ≡ false
negated true h = cc
negated false h = λ _. false

pub or_false : (b c : Bool) → (b || c) ≡ false → (b ≡ false) × (c ≡ false)
or_false true c h = cc
or_false false c h = (λ _. false, h)

pub or_true : {P : Type 0} (b c : Bool) → (b || c) ≡ true → (b ≡ true → P) → (c ≡ true → P) → P
or_true true c h f g = f (λ _. true)
or_true false c h f g = g h

pub right_true : (b c : Bool) → c ≡ true → (b || c) ≡ true
right_true true c h = λ _. true
right_true false c h = h

pub right_false : (b c : Bool) → c ≡ false → (b && c) ≡ false
right_false true c h = h
right_false false c h = λ _. false

pub le_of : (a b : ℕ) → nat_le a b ≡ true → a ≤ b
le_of a b h = grind (arith, nat_tests)

pub le_test : (a b : ℕ) → a ≤ b → nat_le a b ≡ true
le_test a b h = grind (arith, nat_tests)

pub one_less : (n : ℕ) → (n + 1) - 1 ≡ n
one_less n = omega arith

pub same_text : (a b : List ℕ) → bytes_eq a b ≡ true → a ≡ b
same_text a b h = (bytes_eq-Decides a b).0 h

pub differs : (a b : List ℕ) → bytes_eq a b ≡ false → a ≢ b
differs a b h same = false≢true (sym h ∙ (bytes_eq-Decides a b).1 same)
