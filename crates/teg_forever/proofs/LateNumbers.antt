-- Steps of the search for a late number.
use Rattle.std.proofs.Common.{ℕ, ◌≡◌, ◌<◌, ◌≤◌, ◌+◌, ◌-◌, inl, inr, Some, sym, subst, ap, ◌∙◌, arith, ⊎_elim, pos}
use Rattle.std.proofs.lemmas.Bool.{cases_lt}
use Rattle.dioid.specs.declared.dates.Date.{Date}
use Rattle.dioid.specs.declared.dates.Date.TheVariants.{At}
use Rattle.endless_due.specs.declared.row.EndlessRow.{EndlessRow}
use Rattle.endless_due.specs.EndlessRows.{row_due}
use Rattle.forever_laws.specs.Late.{IsLateAt, NoneLateTo, NoneLate, IsLeastLate}
use Rattle.forever_laws.specs.LateSearches.{IsSoonest, turns_to}

module _ (x : ℕ → ℕ → Date) (r : EndlessRow) where
  same_due : (k d e : ℕ) → row_due r k ≡ Some d → row_due r k ≡ Some e → d ≡ e
  same_due k d e a b = let c : Some d ≡ Some e = sym a ∙ b in cc

  same_date : (k d e : ℕ) → x r.transition.index k ≡ At (pos d) → x r.transition.index k ≡ At (pos e) → d ≡ e
  same_date k d e a b = let c : At (pos d) ≡ At (pos e) = sym a ∙ b in cc

  pub none_less : (m n : ℕ) → n ≤ m → NoneLateTo x r m → NoneLateTo x r n
  none_less m n w h k d z low = h k d z (omega arith)

  -- a number is not late whose date is no later than due
  pub in_time_at : (n d z : ℕ) → row_due r n ≡ Some d → x r.transition.index n ≡ At (pos z) → z ≤ d → (e y : ℕ) → IsLateAt x r n e y → ⊥
  in_time_at n d z due date low e y l =
      let a : d ≡ e = same_due n d e due l.is_due in
      let b : z ≡ y = same_date n z y date l.comes in
      let late : e < y = l.late in
      omega arith

  -- none up to a number that is not late itself
  pub none_then : (n : ℕ) → NoneLateTo x r (n - 1) → ((e y : ℕ) → IsLateAt x r n e y → ⊥) → NoneLateTo x r n
  none_then n h here k e y w l = ⊎_elim
      (λ before. h k e y (omega arith) l)
      (λ after. let same : k ≡ n = omega arith in here e y (subst (λ (m : ℕ). IsLateAt x r m e y) same l))
      (cases_lt k n)

  -- the least late number, where none before is late
  pub least_then : (n d z : ℕ) → NoneLateTo x r (n - 1) → IsLateAt x r n d z → IsLeastLate x r n d z
  least_then n d z h late = record { late = late; first = λ j e v l. ⊎_elim (λ before. absurd (h j e v (omega arith) l)) (λ after. after) (cases_lt j n) }

  pub none_more : (n d z : ℕ) → row_due r n ≡ Some d → x r.transition.index n ≡ At (pos z) → z ≤ d → NoneLateTo x r (n - 1) → NoneLateTo x r n
  none_more n d z due date low h = none_then n h (in_time_at n d z due date low)

  pub first_found : (n d z : ℕ) → 1 ≤ n → row_due r n ≡ Some d → x r.transition.index n ≡ At (pos z) → d < z → NoneLateTo x r (n - 1) → IsLeastLate x r n d z
  first_found n d z one due date late h = least_then n d z h (record { from_one = one; is_due = due; comes = date; late = late })

  pub soonest_begun : (past gain d z : ℕ) → row_due r (past + 1) ≡ Some d → x r.transition.index (past + 1) ≡ At (pos z) → IsSoonest x r past (past + 1) gain (past + 1) d z
  soonest_begun past gain d z due date = record {
    above = omega arith;
    within = omega arith;
    is_due = due;
    comes = date;
    soonest = λ k e y low high a b.
        let same : k ≡ past + 1 = omega arith in
        let p : d ≡ e = same_due (past + 1) d e due (subst (λ (m : ℕ). row_due r m ≡ Some e) same a) in
        let q : z ≡ y = same_date (past + 1) z y date (subst (λ (m : ℕ). x r.transition.index m ≡ At (pos y)) same b) in
        inr (ap (λ (m : ℕ). turns_to m z gain) p ∙ ap (λ (m : ℕ). turns_to e m gain) q, omega arith);
  }

  -- the next number is late no sooner
  pub soonest_kept : (past n gain base d z e y : ℕ) → past < n → row_due r n ≡ Some e → x r.transition.index n ≡ At (pos y) → turns_to d z gain ≤ turns_to e y gain
      → IsSoonest x r past (n - 1) gain base d z → IsSoonest x r past n gain base d z
  soonest_kept past n gain base d z e y low due date slow h = record {
    above = h.above;
    within = let w : base ≤ n - 1 = h.within in omega arith;
    is_due = h.is_due;
    comes = h.comes;
    soonest = λ k f v u w a b. ⊎_elim
        (λ before. h.soonest k f v u (omega arith) a b)
        (λ after.
        let same : k ≡ n = omega arith in
        let p : e ≡ f = same_due n e f due (subst (λ (m : ℕ). row_due r m ≡ Some f) same a) in
        let q : y ≡ v = same_date n y v date (subst (λ (m : ℕ). x r.transition.index m ≡ At (pos v)) same b) in
        let turns : turns_to e y gain ≡ turns_to f v gain = ap (λ (m : ℕ). turns_to m y gain) p ∙ ap (λ (m : ℕ). turns_to f m gain) q in
        let within : base ≤ n - 1 = h.within in
        ⊎_elim (λ less. inl (omega arith)) (λ more. inr (omega arith, omega arith)) (cases_lt (turns_to d z gain) (turns_to f v gain)))
        (cases_lt k n);
  }

  -- the next number is late sooner
  pub soonest_next : (past n gain base d z e y : ℕ) → past < n → row_due r n ≡ Some e → x r.transition.index n ≡ At (pos y) → turns_to e y gain < turns_to d z gain
      → IsSoonest x r past (n - 1) gain base d z → IsSoonest x r past n gain n e y
  soonest_next past n gain base d z e y low due date soon h = record {
    above = low;
    within = omega arith;
    is_due = due;
    comes = date;
    soonest = λ k f v u w a b. ⊎_elim
        (λ before. ⊎_elim
        (λ less. inl (omega arith))
        (λ (same : (turns_to d z gain ≡ turns_to f v gain) × (base ≤ k)). let turns : turns_to d z gain ≡ turns_to f v gain = same.0 in inl (omega arith))
        (h.soonest k f v u (omega arith) a b))
        (λ after.
        let same : k ≡ n = omega arith in
        let p : e ≡ f = same_due n e f due (subst (λ (m : ℕ). row_due r m ≡ Some f) same a) in
        let q : y ≡ v = same_date n y v date (subst (λ (m : ℕ). x r.transition.index m ≡ At (pos v)) same b) in
        inr (ap (λ (m : ℕ). turns_to m y gain) p ∙ ap (λ (m : ℕ). turns_to f m gain) q, omega arith))
        (cases_lt k n);
  }

-- ---- the same dates told by another function

module _ (x y : ℕ → ℕ → Date) (r : EndlessRow) (same : (k : ℕ) → 1 ≤ k → x r.transition.index k ≡ y r.transition.index k) where
  pub late_as : (k d z : ℕ) → IsLateAt x r k d z → IsLateAt y r k d z
  late_as k d z h = record { from_one = h.from_one; is_due = h.is_due; comes = sym (same k h.from_one) ∙ h.comes; late = h.late }

  pub soonest_as : (past last gain base d z : ℕ) → IsSoonest x r past last gain base d z → IsSoonest y r past last gain base d z
  soonest_as past last gain base d z h =
      let above : past < base = h.above in
      record {
        above = h.above;
        within = h.within;
        is_due = h.is_due;
        comes = sym (same base (omega arith)) ∙ h.comes;
        soonest = λ k e v u w a b. h.soonest k e v u w a (same k (omega arith) ∙ b);
      }

module _ (x y : ℕ → ℕ → Date) (r : EndlessRow) (same : (k : ℕ) → 1 ≤ k → x r.transition.index k ≡ y r.transition.index k) where
  pub none_to_as : (last : ℕ) → NoneLateTo x r last → NoneLateTo y r last
  none_to_as last h k d z w l = h k d z w (late_as y x r (λ j o. sym (same j o)) k d z l)

  pub none_as : NoneLate x r → NoneLate y r
  none_as h k d z l = h k d z (late_as y x r (λ j o. sym (same j o)) k d z l)

  pub least_as : (k d z : ℕ) → IsLeastLate x r k d z → IsLeastLate y r k d z
  least_as k d z h = record { late = late_as x y r same k d z h.late; first = λ j e v l. h.first j e v (late_as y x r (λ i o. sym (same i o)) j e v l) }
