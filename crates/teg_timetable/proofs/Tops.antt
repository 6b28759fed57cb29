-- The greatest delays in a period.
use Rattle.std.proofs.Common.{ℕ, ◌+◌, ◌<◌, ◌≤◌, ◌≡◌, max, sym, ap, subst, ◌∙◌, arith, ⊎_elim}
use Rattle.std.proofs.lemmas.Bool.{cases_lt}
use Rattle.delay_laws.specs.DelayOutcomes.{HasDelayPast}
use Rattle.teg_timetable.specs.Spreads.{LeftDelays, delay_left}
use Rattle.teg_timetable.proofs.TopsUpTo.{IsTopUpTo}

-- the first number
pub top_first : (s : LeftDelays) (i n d : ℕ) → n ≡ s.form.after + 1 → d ≡ delay_left s i n → 1 ≤ s.form.period → IsTopUpTo s i (n + 1) d
top_first s i n d first is some = record {
  greatest = λ k after before. let e : k ≡ n = omega arith in let own = ap (delay_left s i) e in omega arith;
  attained = record { number = n; past = omega arith; within = omega arith; is = sym is };
}

-- one number more
pub top_more : (s : LeftDelays) (i upto top d : ℕ) → IsTopUpTo s i upto top → d ≡ delay_left s i upto → s.form.after < upto → upto ≤ s.form.after + s.form.period → IsTopUpTo s i (upto + 1) (max top d)
top_more s i upto top d old is past within = record {
  greatest = λ k after before. ⊎_elim
      (λ (l : k < upto). let own = old.greatest k after l in omega arith)
      (λ (l : upto ≤ k). let e : k ≡ upto = omega arith in let own = ap (delay_left s i) e in omega arith)
      (cases_lt k upto);
  attained = ⊎_elim
      (λ (l : top < d). let e : d ≡ max top d = omega arith in record { number = upto; past = past; within = within; is = sym is ∙ e })
      (λ (l : d ≤ top). let e : top ≡ max top d = omega arith in subst (λ (z : ℕ). HasDelayPast (delay_left s) s.form.after s.form.period z i) e old.attained)
      (cases_lt top d);
}
