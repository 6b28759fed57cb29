-- The records that are left of a text, after some were read.
use Rattle.std.proofs.Common.{◌≡◌, ◌∙◌, ◌<◌, ◌≤◌, ◌+◌, ◌-◌, ◌==◌, ◌∷◌, ◌++◌, ℕ, zero, suc, List, [], Bool, true, false, cond, ◌&&◌, Option, Some}
use Rattle.std.proofs.Common.{None, inl, inr, length, refl, ap, subst, arith, add-one}
use Rattle.std.proofs.lemmas.Bool.{cases_Bool}
use Rattle.csv_records.specs.Records.{IsBetween}
use Rattle.csv.specs.Machine.{Read, after_end, ends_at_end, ends_with, field_after, fields_after, in_field, is_byte, is_end, line_feed, next_record, start_field, start_record, step}
use Rattle.csv.specs.Reading.{default_config, NextIs, ReadsNext, records_from, records_next, strip_bom, is_bom}
use Rattle.csv.specs.declared.parser.Action.{Action}
use Rattle.csv.specs.declared.parser.Action.TheVariants as act
use Rattle.csv.specs.declared.parser.Config.{Config}
use Rattle.csv.specs.declared.parser.State.{State}
use Rattle.csv.specs.declared.parser.State.TheVariants as st
use Rattle.csv.specs.declared.parser.Terminator.{Terminator}
use Rattle.csv.specs.declared.parser.Terminator.TheVariants as term

-- a step that ends a record leaves no record begun
abbrev EndsBetween : State × Action → Type 0
EndsBetween p = is_end p.1 ≡ true → IsBetween p.0

choose : (b : Bool) (p q : State × Action) → EndsBetween p → EndsBetween q → EndsBetween (cond b p q)
choose true p q hp hq = hp
choose false p q hp hq = hq

after_end_between : (t : Terminator) (c : ℕ) → IsBetween (after_end t c)
after_end_between term.CRLF c = pick (c == 13)
  where
    pick : (b : Bool) → IsBetween (cond b st.AfterCr st.StartRecord)
    pick true = refl
    pick false = refl
after_end_between (term.Any t) c = refl

in_field_between : (cfg : Config) (c : ℕ) → EndsBetween (in_field cfg c)
in_field_between cfg c = choose (c == cfg.delimiter) (st.StartField, act.EndField) (cond (ends_with cfg.terminator c) (after_end cfg.terminator c, act.EndRecord) (st.InField, act.Copy)) (λ h. cc h)
    (choose (ends_with cfg.terminator c) (after_end cfg.terminator c, act.EndRecord) (st.InField, act.Copy) (λ h. after_end_between cfg.terminator c) (λ h. cc h))

start_field_between : (cfg : Config) (c : ℕ) → EndsBetween (start_field cfg c)
start_field_between cfg c = choose (cfg.quoting && (c == cfg.quote)) (st.InQuoted, act.Skip) (in_field cfg c) (λ h. cc h) (in_field_between cfg c)

start_record_between : (cfg : Config) (c : ℕ) → EndsBetween (start_record cfg c)
start_record_between cfg c = choose (ends_with cfg.terminator c) (st.StartRecord, act.Skip) (cond (is_byte cfg.comment c) (st.InComment, act.Skip) (start_field cfg c)) (λ h. cc h)
    (choose (is_byte cfg.comment c) (st.InComment, act.Skip) (start_field cfg c) (λ h. cc h) (start_field_between cfg c))

step_between : (cfg : Config) (s : State) (c : ℕ) → EndsBetween (step cfg s c)
step_between cfg st.StartRecord c = start_record_between cfg c
step_between cfg st.StartField c = start_field_between cfg c
step_between cfg st.InField c = in_field_between cfg c
step_between cfg st.InQuoted c = choose (cfg.quoting && (c == cfg.quote)) (st.AfterQuote, act.Skip)
    (cond (cfg.quoting && is_byte cfg.escape c) (st.InEscape, act.Skip) (st.InQuoted, act.Copy)) (λ h. cc h)
    (choose (cfg.quoting && is_byte cfg.escape c) (st.InEscape, act.Skip) (st.InQuoted, act.Copy) (λ h. cc h) (λ h. cc h))
step_between cfg st.InEscape c = λ h. cc h
step_between cfg st.AfterQuote c = choose (cfg.quoting && cfg.double_quote && (c == cfg.quote)) (st.InQuoted, act.Copy) (in_field cfg c) (λ h. cc h) (in_field_between cfg c)
step_between cfg st.InComment c = choose (c == line_feed) (st.StartRecord, act.Skip) (st.InComment, act.Skip) (λ h. cc h) (λ h. cc h)
step_between cfg st.AfterCr c = choose (c == line_feed) (st.StartRecord, act.Skip) (start_record cfg c) (λ h. cc h) (start_record_between cfg c)

-- what holds of a record that was read: no other is begun, and it took a byte where there was one
pub record WasRead (xs : List ℕ) (p : Read) : Type 0 where
  pub between : IsBetween p.1
  pub shorter : length p.2 ≤ length xs - 1

was_read_at_end : (b : Bool) (p q : Read) → IsBetween q.1 → length q.2 ≤ 0 → cond b (Some q) None ≡ Some p → WasRead [] p
was_read_at_end true p q h k e = let same : q ≡ p = cc in subst (λ (r : Read). WasRead [] r) same (record { between = h; shorter = omega arith })
was_read_at_end false p q h k e = cc e

was_read_here : (c : ℕ) (rest : List ℕ) (p q : Read) → IsBetween q.1 → q.2 ≡ rest → Some q ≡ Some p → WasRead (c ∷ rest) p
was_read_here c rest p q h k e = let same : q ≡ p = cc in subst (λ (r : Read). WasRead (c ∷ rest) r) same (record { between = h; shorter = rw k (omega arith) })

pub next_was_read : (cfg : Config) (s : State) (fields : List (List ℕ)) (field xs : List ℕ) (p : Read) → next_record cfg s fields field xs ≡ Some p → WasRead xs p
unfolding next_record
next_was_read cfg s fields field [] p e = was_read_at_end (ends_at_end s) p (fields ++ (field ∷ []), st.StartRecord, []) refl (omega arith) e
next_was_read cfg s fields field (c ∷ rest) p e = elim (cases_Bool (is_end (step cfg s c).1)) [
  | inl ends ↦ was_read_here c rest p (fields_after (step cfg s c).1 fields field, (step cfg s c).0, rest) (step_between cfg s c ends) refl (rw ends at e)
  | inr goes ↦
      let more = next_was_read cfg (step cfg s c).0 (fields_after (step cfg s c).1 fields field) (field_after (step cfg s c).1 c field) rest p (rw goes at e) in
      record { between = more.between; shorter = omega (arith, more.shorter) }
]

-- at the end of a text between two records there is none
none_at_end : (cfg : Config) (s : State) (p : Read) → IsBetween s → next_record cfg s [] [] [] ≡ Some p → ⊥
unfolding next_record
none_at_end cfg s p between e = cc (rw between at e)

-- a record takes a byte
pub took_a_byte : (cfg : Config) (s : State) (xs : List ℕ) (p : Read) → IsBetween s → next_record cfg s [] [] xs ≡ Some p → length p.2 < length xs
took_a_byte cfg s [] p between e = absurd (none_at_end cfg s p between e)
took_a_byte cfg s (x ∷ xs) p between e = let h = (next_was_read cfg s [] [] (x ∷ xs) p e).shorter in omega arith

same_next : (cfg : Config) (n m : ℕ) (o : Option Read)
    → ((p : Read) → o ≡ Some p → records_from cfg n p.1 p.2 ≡ records_from cfg m p.1 p.2)
    → records_next (records_from cfg n) o ≡ records_next (records_from cfg m) o
same_next cfg n m None h = refl
same_next cfg n m (Some p) h = ap (λ (rest : List (List (List ℕ))). p.0 ∷ rest) (h p refl)

-- more turns than bytes make no difference
pub enough_turns : (cfg : Config) (n m : ℕ) (s : State) (xs : List ℕ) → IsBetween s → length xs < n → length xs < m → records_from cfg n s xs ≡ records_from cfg m s xs
unfolding records_from
enough_turns cfg zero m s xs between hn hm = absurd (omega arith)
enough_turns cfg (suc n) zero s xs between hn hm = absurd (omega arith)
enough_turns cfg (suc n) (suc m) s xs between hn hm = same_next cfg n m (next_record cfg s [] [] xs) (λ p e.
    let fewer = took_a_byte cfg s xs p between e in
    enough_turns cfg n m p.1 p.2 (next_was_read cfg s [] [] xs p e).between (omega arith) (omega arith))

one_turn : (cfg : Config) (n : ℕ) (s : State) (xs : List ℕ) (o : Option Read) → next_record cfg s [] [] xs ≡ o → records_from cfg (suc n) s xs ≡ records_next (records_from cfg n) o
unfolding records_from
one_turn cfg n s xs o e = ap (records_next (records_from cfg n)) e

-- the first of those that are left, and the rest
pub unread_more : (cfg : Config) (s : State) (xs : List ℕ) (p : Read) → IsBetween s → next_record cfg s [] [] xs ≡ Some p
    → records_from cfg (length xs + 1) s xs ≡ p.0 ∷ records_from cfg (length p.2 + 1) p.1 p.2
unread_more cfg s xs p between e =
    let fewer = took_a_byte cfg s xs p between e in
    rw add-one (one_turn cfg (length xs) s xs (Some p) e)
    ∙ ap (λ (rest : List (List (List ℕ))). p.0 ∷ rest) (enough_turns cfg (length xs) (length p.2 + 1) p.1 p.2 (next_was_read cfg s [] [] xs p e).between fewer (omega arith))

pub unread_none : (cfg : Config) (s : State) (xs : List ℕ) → next_record cfg s [] [] xs ≡ None → records_from cfg (length xs + 1) s xs ≡ []
unread_none cfg s xs e = rw add-one (one_turn cfg (length xs) s xs None e)

-- what a read of a reader shows, as an equation
next_is : (o : Option Read) (f : List (List ℕ)) (s : State) (z : List ℕ) → NextIs o true f s z → o ≡ Some (f, s, z)
next_is None f s z n = cc n
next_is (Some p) f s z n = rw (n.1, n.2, n.3) refl

pub read_gives : (cfg : Config) (a b : State) (y : List ℕ) (f : List (List ℕ)) (k : Option (List ℕ))
    → ReadsNext cfg a (Some y) k true f b → (z : List ℕ) × (k ≡ Some z) × (next_record cfg a [] [] y ≡ Some (f, b, z))
read_gives cfg a b y f None r = absurd r
read_gives cfg a b y f (Some z) r = (z, refl, next_is _ f b z r)

bom_shorter : (b : Bool) (x y z : ℕ) (rest : List ℕ) → length (cond b rest (x ∷ y ∷ z ∷ rest)) ≤ length (x ∷ y ∷ z ∷ rest)
bom_shorter true x y z rest = omega arith
bom_shorter false x y z rest = omega arith

pub strip_shorter : (xs : List ℕ) → length (strip_bom xs) ≤ length xs
unfolding strip_bom
strip_shorter [] = omega arith
strip_shorter (a ∷ []) = omega arith
strip_shorter (a ∷ b ∷ []) = omega arith
strip_shorter (a ∷ b ∷ c ∷ rest) = bom_shorter (is_bom a b c) a b c rest

-- there are no more records than bytes
pub few_records : (n : ℕ) (s : State) (xs : List ℕ) → IsBetween s → length (records_from default_config n s xs) ≤ length xs
unfolding records_from
few_records zero s xs between = omega arith
few_records (suc n) s xs between = few_next (next_record default_config s [] [] xs) (λ p e.
    let fewer = took_a_byte default_config s xs p between e in
    let rest = few_records n p.1 p.2 (next_was_read default_config s [] [] xs p e).between in
    omega (arith, fewer, rest))
  where
    few_next : (o : Option Read) → ((p : Read) → o ≡ Some p → length (records_from default_config n p.1 p.2) + 1 ≤ length xs) → length (records_next (records_from default_config n) o) ≤ length xs
    few_next None h = omega arith
    few_next (Some p) h = let more = h p refl in omega (arith, more)
