-- Where the star of a series repeats.
use Rattle.std.proofs.Common.{◌≡◌, ap, arith, ℕ, ℤ, pos, zero, suc, ◌+◌, ◌*◌, ◌-◌, ◌≤◌, ◌<◌, ◌+ℤ◌, ◌-ℤ◌, sym, ◌∙◌, subst, ⊎_elim, ◌⊎◌, inl, inr, List, [], ◌∷◌, ◌++◌, length}
use Rattle.std.specs.Prelude.{◌≤ℤ◌}
use Rattle.std.proofs.lemmas.Int.{ints}
use Rattle.std.proofs.lemmas.Bool.{cases_lt}
use Rattle.dioid.specs.Dates.{date_product, move}
use Rattle.dioid.specs.Proved.DateLaws.{one_times, times_one}
use Rattle.dioid.specs.declared.dates.Date.{Date}
use Rattle.dioid.specs.declared.dates.Date.TheVariants.{At}
use Rattle.dioid.specs.DateOrder.{Le}
use Rattle.dioid.proofs.AtMost.{le_refl, le_is, le_trans, product_le, move_le}
use Rattle.dioid.proofs.Moves.{product_move_left, product_move_right, move_zero, move_move}
use Rattle.series_laws.specs.Periodic.{Repeats, times}
use Rattle.series_laws.proofs.Repeating.{times_add, by_steps}
use Rattle.series_laws.specs.SeriesStars.{total_of_parts, sum_of_values, ArePositive, IsStarAt, scaled}
use Rattle.series_laws.proofs.StarsRepeat.{star_repeats, scaled_product, scaled_zero, scaled_le_back, scaled_move, times_over, times_swap}
use Rattle.series_laws.proofs.Items.{Item, lengths, worths, StepFree, Fit, lengths_append, worths_append, fit_first, fit_second, fit_join, free_first}
use Rattle.series_laws.proofs.Items.{free_second, free_join, lengths_most, Run, run_of, realised, Cores, cores_of}
use Rattle.dioid.proofs.Moves.{product_is_move}
use Rattle.series_laws.proofs.Items.Item.{part, step}

-- ---- case 2: a shift b whose ratio a / b no other shift exceeds

module _ (s : ℕ → Date) (n : ℕ) (x : ℤ) (b : ℕ) (a : ℤ) (pos_b : 0 < b) (anchor : s b ≡ At a) where
  cheap_run : (m : ℕ) (items : List Item) → Fit s n x m items → ((c : ℕ) → 0 < c → c ≤ m → Le (scaled b (s c)) (At (times c a))) → times b x ≤ℤ times n a
      → Le (scaled b (worths s n x items)) (At (times (lengths s n x items) a))
  cheap_run m [] fit cheap slow = le_is (scaled_zero b)
  cheap_run m (part c ∷ items) fit cheap slow =
      le_trans (le_is (scaled_product b (s c) (worths s n x items)))
      (le_trans (product_le (cheap c fit.0 fit.1) (cheap_run m items fit.2 cheap slow)) (le_is (ap At (sym (times_add c (lengths s n x items) a)))))
  cheap_run m (step ∷ items) fit cheap slow =
      let first : Le (At (times b x)) (At (times n a)) = record { holds = slow } in
      le_trans (le_is (scaled_product b (At x) (worths s n x items)))
      (le_trans (product_le first (cheap_run m items fit.2 cheap slow)) (le_is (ap At (sym (times_add n (lengths s n x items) a)))))

  abbrev anchors : ℕ → List Item → List Item
  anchors zero l = l
  anchors (suc q) l = part b ∷ anchors q l

  anchors_lengths : (q : ℕ) (l : List Item) → lengths s n x (anchors q l) ≡ q * b + lengths s n x l
  anchors_lengths zero l = omega arith
  anchors_lengths (suc q) l = let e : lengths s n x (anchors q l) ≡ q * b + lengths s n x l = anchors_lengths q l in omega arith

  anchors_worths : (q : ℕ) (l : List Item) → worths s n x (anchors q l) ≡ move (times q a) (worths s n x l)
  anchors_worths zero l = sym (move_zero (worths s n x l))
  anchors_worths (suc q) l = ap (λ z. date_product z (worths s n x (anchors q l))) anchor
      ∙ product_is_move a (worths s n x (anchors q l)) ∙ ap (move a) (anchors_worths q l) ∙ move_move (times q a) a (worths s n x l)

  anchors_free : (q : ℕ) (l : List Item) → StepFree s n x l → StepFree s n x (anchors q l)
  anchors_free zero l h = h
  anchors_free (suc q) l h = anchors_free q l h

  anchors_fit : (m q : ℕ) (l : List Item) → b ≤ m → Fit s n x m l → Fit s n x m (anchors q l)
  anchors_fit m zero l h f = f
  anchors_fit m (suc q) l h f = (pos_b, h, anchors_fit m q l h f)

  module _ (star : ℕ → Date) (p : ℕ) (is : (k : ℕ) → IsStarAt s k (star k)) (repeats : Repeats s p n x) (pos_n : 0 < n) (near : b ≤ p + n)
      (cheap : (c : ℕ) → 0 < c → c ≤ p + n → Le (scaled b (s c)) (At (times c a))) (slow : times b x ≤ℤ times n a) where
    anchored_up : (k : ℕ) (l : List ℕ) → ArePositive l → total_of_parts l ≡ k → Le (move a (sum_of_values s l)) (star (k + b))
    anchored_up k l pos_l e = le_trans (le_is (sym (product_is_move a (sum_of_values s l))
        ∙ ap (λ z. date_product z (sum_of_values s l)) (sym anchor))) ((is (k + b)).below (b ∷ l) (pos_b, pos_l) (omega arith))

    by_run : (k : ℕ) (l : List ℕ) → total_of_parts l ≡ k + b → (cores : Cores s n x p l) → Run s n x b cores.items → Le (sum_of_values s l) (move a (star k))
    by_run k l e cores run =
        let m : ℕ = p + n in
        let core : ℕ = cores.core in
        let u : List Item = run.before in
        let r : List Item = run.run in
        let v : List Item = run.after in
        let q : ℕ = run.number in
        let W : List Item → Date = worths s n x in
        let L : List Item → ℕ = lengths s n x in
        let others : List Item = anchors q (u ++ v) in
        let fit : Fit s n x m (u ++ (r ++ v)) = subst (λ (z : List Item). Fit s n x m z) run.is cores.fit in
        let fit_rv : Fit s n x m (r ++ v) = fit_second s n x m u (r ++ v) fit in
        let fit_others : Fit s n x m others = anchors_fit m q (u ++ v) near (fit_join s n x m u v (fit_first s n x m u (r ++ v) fit) (fit_second s n x m r v fit_rv)) in
        let multiple : At (times (L r) a) ≡ scaled b (At (times (suc q) a)) = ap (λ (z : ℕ). At (times z a)) run.whole ∙ ap At (times_over (suc q) b a ∙ times_swap (suc q) b a) in
        let run_worth : Le (W r) (At (times (suc q) a)) = scaled_le_back b pos_b (le_trans (cheap_run m r (fit_first s n x m r v fit_rv) cheap slow) (le_is multiple)) in
        let parted : W cores.items ≡ date_product (W u) (date_product (W r) (W v)) = ap W run.is ∙ worths_append s n x u (r ++ v) ∙ ap (date_product (W u)) (worths_append s n x r v) in
        let taken : date_product (W u) (date_product (At (times (suc q) a)) (W v)) ≡ move a (W others) =
        ap (date_product (W u)) (product_is_move (times (suc q) a) (W v)) ∙ product_move_right (times (suc q) a) (W u) (W v) ∙ ap (move (times (suc q) a)) (sym (worths_append s n x u v))
        ∙ sym (move_move (times q a) a (W (u ++ v))) ∙ ap (move a) (sym (anchors_worths q (u ++ v))) in
        let tail : StepFree s n x others ⊎ (p ≤ core) = ⊎_elim
        (λ free. let f : StepFree s n x (u ++ (r ++ v)) = subst (λ (z : List Item). StepFree s n x z) run.is free in
        inl (anchors_free q (u ++ v) (free_join s n x u v (free_first s n x u (r ++ v) f) (free_second s n x r v (free_second s n x u (r ++ v) f)))))
        (λ high. inr high)
        cores.tail in
        let l1 : L cores.items ≡ L u + (L r + L v) = ap L run.is ∙ lengths_append s n x u (r ++ v) ∙ ap (λ (z : ℕ). L u + z) (lengths_append s n x r v) in
        let l2 : L others ≡ q * b + L (u ++ v) = anchors_lengths q (u ++ v) in
        let l3 : L (u ++ v) ≡ L u + L v = lengths_append s n x u v in
        let l4 : L r ≡ suc q * b = run.whole in
        let l5 : core + L cores.items ≡ total_of_parts l = cores.long in
        let le_items : Le (W cores.items) (move a (W others)) = le_trans (le_is parted) (le_trans (product_le (le_refl (W u)) (product_le run_worth (le_refl (W v)))) (le_is taken)) in
        let left : Le (date_product (s core) (W others)) (star k) =
        le_trans (le_is (ap (date_product (s core)) (sym (one_times (W others)))))
        (realised s n x star p is repeats m others core [] k fit_others cores.is_positive tt tail (omega arith)) in
        le_trans (le_is (sym cores.worth))
        (le_trans (product_le (le_refl (s core)) le_items)
        (le_trans (le_is (product_move_right a (s core) (W others))) (move_le a left)))

    many_items : (k : ℕ) (l : List ℕ) → b * (p + n) + 1 ≤ k → total_of_parts l ≡ k + b → (cores : Cores s n x p l) → b ≤ length cores.items
    many_items k l far e cores = ⊎_elim
        (λ few. absurd (
        let m : ℕ = length cores.items in
        let d : ℕ = b - suc m in
        let f : b ≡ suc (m + d) = omega arith in
        let g : b * (p + n) ≡ suc (m + d) * (p + n) = ap (λ (z : ℕ). z * (p + n)) f in
        let h : lengths s n x cores.items ≤ m * (p + n) = lengths_most s n x (p + n) cores.items cores.fit in
        let i : cores.core + lengths s n x cores.items ≡ total_of_parts l = cores.long in
        let j : cores.core ≤ p + n = cores.low in
        omega arith))
        (λ many. many)
        (cases_lt (length cores.items) b)

    anchored_down : (k : ℕ) → b * (p + n) + 1 ≤ k → (l : List ℕ) → ArePositive l → total_of_parts l ≡ k + b → Le (sum_of_values s l) (move a (star k))
    anchored_down k far [] pos_l e = absurd (omega arith)
    anchored_down k far (c ∷ l) pos_l e =
        let cores : Cores s n x p (c ∷ l) = cores_of s n x p c l repeats pos_n pos_l.0 pos_l.1 in
        by_run k (c ∷ l) e cores (run_of s n x b (p + n) cores.items pos_b (many_items k (c ∷ l) far e cores) cores.fit)

    pub star_repeats_anchored : Le (At (pos 0)) (s 1) → Repeats star (b * (p + n) + 1) b a
    star_repeats_anchored h = star_repeats s star (b * (p + n) + 1) b a h is anchored_down (λ k _ l pos_l e. anchored_up k l pos_l e)

-- ---- case 3: each short part loses, and no part in the tail loses more than w

module _ (s : ℕ → Date) (p n w : ℕ) (x : ℤ) (repeats : Repeats s p n x) (pos_n : 0 < n) (at_zero : Le (s 0) (At (pos 0)))
    (lossy : (c : ℕ) → 0 < c → c < p + n → Le (scaled n (s c)) (At (times c x -ℤ pos 1)))
    (kept : (c : ℕ) → p ≤ c → c < p + n → Le (At (times c x -ℤ pos w)) (scaled n (s c))) where
  abbrev AllBelow : List ℕ → Type 0
  AllBelow [] = Unit {0}
  AllBelow (c ∷ l) = (c < p + n) × AllBelow l

  -- a list that is n shorter, and one that is n longer
  record Shorter (l : List ℕ) : Type 0 where
    parts : List ℕ
    positive : ArePositive parts
    long : total_of_parts parts + n ≡ total_of_parts l
    worth : Le (sum_of_values s l) (move x (sum_of_values s parts))

  record Longer (l : List ℕ) : Type 0 where
    parts : List ℕ
    positive : ArePositive parts
    long : total_of_parts parts ≡ total_of_parts l + n
    worth : Le (move x (sum_of_values s l)) (sum_of_values s parts)

  shortened_head : (c : ℕ) (l : List ℕ) → ArePositive l → (d : ℕ) → c ≡ d + n → p ≤ d → Shorter (c ∷ l)
  shortened_head c l pos_l zero e u = record {
    parts = l;
    positive = pos_l;
    long = omega arith;
    worth = le_trans (product_le (le_trans (le_is (ap s e ∙ repeats.at 0 u)) (move_le x at_zero)) (le_refl (sum_of_values s l)))
        (le_is (product_move_left x (At (pos 0)) (sum_of_values s l) ∙ ap (move x) (one_times (sum_of_values s l))));
  }
  shortened_head c l pos_l (suc d) e u = record {
    parts = suc d ∷ l;
    positive = (omega arith, pos_l);
    long = omega arith;
    worth = le_is (ap (λ (z : ℕ). date_product (s z) (sum_of_values s l)) e
        ∙ ap (λ z. date_product z (sum_of_values s l)) (repeats.at (suc d) u) ∙ product_move_left x (s (suc d)) (sum_of_values s l));
  }

  shortened : (l : List ℕ) → ArePositive l → Shorter l ⊎ AllBelow l
  shortened [] pos_l = inr tt
  shortened (c ∷ l) pos_l = ⊎_elim
      (λ low. ⊎_elim
      (λ rest. inl (record {
        parts = c ∷ rest.parts;
        positive = (pos_l.0, rest.positive);
        long = let e : total_of_parts rest.parts + n ≡ total_of_parts l = rest.long in omega arith;
        worth = le_trans (product_le (le_refl (s c)) rest.worth) (le_is (product_move_right x (s c) (sum_of_values s rest.parts)));
      }))
      (λ all. inr (low, all))
      (shortened l pos_l.1))
      (λ high. inl (shortened_head c l pos_l.1 (c - n) (omega arith) (omega arith)))
      (cases_lt c (p + n))

  lengthened : (l : List ℕ) → ArePositive l → Longer l ⊎ AllBelow l
  lengthened [] pos_l = inr tt
  lengthened (c ∷ l) pos_l = ⊎_elim
      (λ low. ⊎_elim
      (λ rest. inl (record {
        parts = c ∷ rest.parts;
        positive = (pos_l.0, rest.positive);
        long = let e : total_of_parts rest.parts ≡ total_of_parts l + n = rest.long in omega arith;
        worth = le_trans (le_is (sym (product_move_right x (s c) (sum_of_values s l)))) (product_le (le_refl (s c)) rest.worth);
      }))
      (λ all. inr (low, all))
      (lengthened l pos_l.1))
      (λ high. inl (record {
        parts = (c + n) ∷ l;
        positive = (omega arith, pos_l.1);
        long = omega arith;
        worth = le_is (sym (product_move_left x (s c) (sum_of_values s l)) ∙ ap (λ z. date_product z (sum_of_values s l)) (sym (repeats.at c (omega arith))));
      }))
      (cases_lt c (p + n))

  losses : (l : List ℕ) → ArePositive l → AllBelow l → Le (scaled n (sum_of_values s l)) (At (times (total_of_parts l) x -ℤ pos (length l)))
  losses [] pos_l low = le_trans (le_is (scaled_zero n)) (le_is (ap At (omega (arith, ints))))
  losses (c ∷ l) pos_l low =
      let e : times (c + total_of_parts l) x ≡ times c x +ℤ times (total_of_parts l) x = times_add c (total_of_parts l) x in
      le_trans (le_is (scaled_product n (s c) (sum_of_values s l)))
      (le_trans (product_le (lossy c pos_l.0 low.0) (losses l pos_l.1 low.1)) (le_is (ap At (omega (arith, ints)))))

  totals : (l : List ℕ) → AllBelow l → total_of_parts l ≤ length l * (p + n)
  totals [] low = omega arith
  totals (c ∷ l) low = let e : total_of_parts l ≤ length l * (p + n) = totals l low.1 in let u : c < p + n = low.0 in omega arith

  tail_kept : (c : ℕ) → p ≤ c → Le (At (times c x -ℤ pos w)) (scaled n (s c))
  tail_kept = by_steps (λ (c : ℕ). Le (At (times c x -ℤ pos w)) (scaled n (s c))) p n pos_n kept
      (λ c u h. let e : times (c + n) x ≡ times c x +ℤ times n x = times_add c n x in
      le_trans (le_is (ap At (let f : (times (c + n) x -ℤ pos w) ≡ ((times c x -ℤ pos w) +ℤ times n x) = omega (arith, ints) in f)))
      (le_trans (move_le (times n x) h) (le_is (sym (scaled_move n x (s c)) ∙ ap (scaled n) (sym (repeats.at c u))))))

  -- short parts alone are no better than one part
  all_below_le : (l : List ℕ) → ArePositive l → AllBelow l → (k : ℕ) → total_of_parts l ≡ k → p ≤ k → (p + n) * w < k → Le (sum_of_values s l) (s k)
  all_below_le l pos_l low k e u far =
      let many : w ≤ length l = ⊎_elim
      (λ few. absurd (
      let d : ℕ = w - suc (length l) in
      let f : w ≡ suc (length l + d) = omega arith in
      let g : (p + n) * w ≡ (p + n) * suc (length l + d) = ap (λ (z : ℕ). (p + n) * z) f in
      let h : total_of_parts l ≤ length l * (p + n) = totals l low in
      omega arith))
      (λ enough. enough)
      (cases_lt (length l) w) in
      let loss : Le (At (times (total_of_parts l) x -ℤ pos (length l))) (At (times k x -ℤ pos w)) =
      let f : times (total_of_parts l) x ≡ times k x = ap (λ (z : ℕ). times z x) e in record { holds = omega (arith, ints) } in
      scaled_le_back n pos_n (le_trans (losses l pos_l low) (le_trans loss (tail_kept k u)))

  pub star_repeats_tail : (star : ℕ → Date) (q : ℕ) → ((k : ℕ) → IsStarAt s k (star k)) → Le (At (pos 0)) (s 1) → p + n ≤ q → (p + n) * w < q → Repeats star q n x
  star_repeats_tail star q is h long far = star_repeats s star q n x h is
      (λ k u l pos_l e. ⊎_elim
      (λ shorter. le_trans shorter.worth (move_le x ((is k).below shorter.parts shorter.positive (let f : total_of_parts shorter.parts + n ≡ total_of_parts l = shorter.long in omega arith))))
      (λ low. le_trans (all_below_le l pos_l low (k + n) e (omega arith) (omega arith))
      (le_trans (le_is (repeats.at k (omega arith))) (move_le x (le_trans (le_is (sym (times_one (s k)))) ((is k).below (k ∷ []) (omega arith, tt) (omega arith))))))
      (shortened l pos_l))
      (λ k u l pos_l e. ⊎_elim
      (λ longer. le_trans longer.worth ((is (k + n)).below longer.parts longer.positive (let f : total_of_parts longer.parts ≡ total_of_parts l + n = longer.long in omega arith)))
      (λ low. le_trans (move_le x (all_below_le l pos_l low k e (omega arith) (omega arith)))
      (le_trans (le_is (sym (repeats.at k (omega arith)) ∙ sym (times_one (s (k + n))))) ((is (k + n)).below ((k + n) ∷ []) (omega arith, tt) (omega arith))))
      (lengthened l pos_l))
