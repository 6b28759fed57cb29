-- Marks and numbers of transitions: what one more leaves, and how many are left.
use Rattle.std.proofs.Common.{ℕ, ◌+◌, ◌*◌, ◌<◌, ◌≤◌, ◌≡◌, ◌≢◌, List, Option, Some, None, Bool, true, false, not, is_some, cond}
use Rattle.std.proofs.Common.{count_by, length, get_or, set, refl, sym, ap, ◌∙◌, arith, rules, inl, inr, ⊎_elim}
use Rattle.std.specs.Prelude.{◌⊎◌, IsSome}
use Rattle.std.proofs.lemmas.Bool.{cases_eq, cases_lt}
use Rattle.std.proofs.lemmas.List.{get_or-set_same, get_or-set_other, get_or_past, get_or-replicate, length-replicate}
use Rattle.std.proofs.lemmas.List.Sums.{sum_by-set}
use lib.ListN.{replicate}

pub false_not_true : (b : Bool) → b ≡ false → b ≡ true → ⊥
false_not_true b e f = cc

-- ---- marks
pub flag_past : (n c : ℕ) → get_or (replicate n false) c false ≡ false
flag_past n c =
    ⊎_elim
    (λ (l : c < n). get_or-replicate n c false false l)
    (λ (l : n ≤ c). get_or_past (replicate n false) c false (omega (arith, length-replicate n false)))
    (cases_lt c n)

pub set_flag : (flags : List Bool) (u c : ℕ) → u < length flags → get_or flags c false ≡ true → get_or (set flags u true) c false ≡ true
set_flag flags u c l e =
    ⊎_elim
    (λ (q : c ≡ u). ap (λ x. get_or (set flags u true) x false) q ∙ get_or-set_same flags u true false l)
    (λ (q : c ≢ u). get_or-set_other flags u c true false q ∙ e)
    (cases_eq c u)

pub set_flag_before : (flags : List Bool) (u c : ℕ) → get_or (set flags u true) c false ≡ true → (c ≡ u) ⊎ (get_or flags c false ≡ true)
set_flag_before flags u c e =
    ⊎_elim
    (λ (q : c ≡ u). inl q)
    (λ (q : c ≢ u). inr (sym (get_or-set_other flags u c true false q) ∙ e))
    (cases_eq c u)

-- how many are not marked
abbrev pub unmarked : List Bool → ℕ
unmarked flags = count_by not flags

pub unmarked_less : (flags : List Bool) (t : ℕ) → t < length flags → get_or flags t false ≡ false → unmarked (set flags t true) + 1 ≡ unmarked flags
unmarked_less flags t l e =
    let s = sum_by-set (λ (x : Bool). cond (not x) 1 0) flags t true false l in
    let one : cond (not (get_or flags t false)) 1 0 ≡ 1 = ap (λ (x : Bool). let r : ℕ = cond (not x) 1 0 in r) e in
    omega (arith, s, one)

-- a mark more, and the places from there, are less work than the mark
pub work_less : (u v places a b : ℕ) → v + 1 ≡ u → b ≤ a + places → v * (places + 1) + b < u * (places + 1) + (a + 1)
work_less u v places a b e l =
    let w : u * (places + 1) ≡ (v + 1) * (places + 1) = ap (λ x. x * (places + 1)) (sym e) in
    omega arith

pub none_by : (o : Option ℕ) (b : Bool) → is_some o ≡ not b → b ≡ true → o ≡ None
none_by None b e t = refl
none_by (Some x) b e t = cc

pub some_by : (o : Option ℕ) (b : Bool) → is_some o ≡ not b → b ≡ false → o ≡ None → ⊥
some_by None b e t n = cc
some_by (Some x) b e t n = cc

pub is_some_of : (o : Option ℕ) → o ≢ None → IsSome o
is_some_of None n = absurd (n refl)
is_some_of (Some x) n = search rules
