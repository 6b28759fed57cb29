-- The settled form of a net tells dates that never fall and go on by its steps, and what it counts its least dating counts.
use Rattle.std.proofs.Common.{ℕ, ◌+◌, ◌-◌, ◌*◌, ◌<◌, ◌≤◌, ◌≡◌, length, Option, sym, ap, subst, ◌∙◌, arith}
use Rattle.std.specs.Prelude.{pos, ◌*ℤ◌, ◌↔◌}
use Rattle.dioid.specs.declared.dates.Date.{Date}
use Rattle.dioid.specs.declared.dates.Date.TheVariants.{At}
use Rattle.dioid.specs.Dates.{IsAtMostDate, move}
use Rattle.dioid.proofs.DateOrder.{same_by_at_most}
use Rattle.teg_net.specs.Nets.{NetLists}
use Rattle.teg_model.specs.Datings.{IsLeastDating}
use Rattle.settled_laws.specs.SettledForms.{SettledForm, settled_date, step_of_form, IsSettledFormOf}
use Rattle.settled_laws.proofs.Telling.{form_tells, rounds_on}
use Rattle.dating_laws.proofs.SlowerNets.{climb}
use Rattle.counter_laws.specs.Counters.{IsUpTo, AreCounters}
use Rattle.counter_laws.proofs.Counting.{same_count}
use Rattle.date_counts.specs.Counts.{IsCountUpTo, IsSteady}

pub steady : (net : NetLists) (f : SettledForm) → IsSettledFormOf net f → (t : ℕ) → t < length net.transitions → IsSteady f t
steady net f w t l =
    let x : ℕ → ℕ → Date = w.0 in
    let stands = w.2.stands in
    let n : ℕ = length net.transitions in
    let tells : (k : ℕ) → 1 ≤ k → settled_date f t k ≡ x t k = λ k o. form_tells n f x stands t k l o in
    record {
      some = stands.sizes.at_least_one;
      rise = λ j k o m.
          let e : j + (k - j) ≡ k = omega arith in
          let up : IsAtMostDate (x t j) (x t (j + (k - j))) = climb net _ x w.1.feasible t j l o (k - j) in
          let there : IsAtMostDate (x t j) (x t k) = rw e at up in
          rw (tells j o, tells k (omega arith)) there;
      again = λ k j m.
          let far : 1 ≤ k + j * f.period = omega arith in
          tells (k + j * f.period) far ∙ (rounds_on n x f.after f.period (step_of_form f) stands.repeats t k j l m ∙ ap (move (pos j *ℤ step_of_form f t)) (sym (tells k (omega arith))));
    }

-- the counts of the form are those of the least dating
pub of_least : (net : NetLists) (f : SettledForm) → IsSettledFormOf net f → (t : ℕ) → t < length net.transitions → (d : ℕ) (o : Option ℕ) → IsCountUpTo (settled_date f t) d o
    → (x : ℕ → ℕ → Date) → IsLeastDating net x → IsCountUpTo (x t) d o
of_least net f w t l d o counts x least k one =
    let same : settled_date f t k ≡ x t k = form_tells (length net.transitions) f w.0 w.2.stands t k l one
    ∙ same_by_at_most (w.0 t k) (x t k) (w.1.least x least.feasible t k l one) (least.least w.0 w.1.feasible t k l one) in
    subst (λ (a : Date). IsAtMostDate a (At (pos d)) ↔ IsUpTo k o) same (counts k one)

-- and so what counters have
pub of_counters : (net : NetLists) (x : ℕ → ℕ → Date) (c : ℕ → ℕ → Option ℕ) (t d : ℕ) (o : Option ℕ) → t < length net.transitions → AreCounters net x c → IsCountUpTo (x t) d o → c t d ≡ o
of_counters net x c t d o l h counts = same_count (c t d) o
    (λ k one u. (counts k one).0 ((h t l d k one).1 u))
    (λ k one u. (h t l d k one).0 ((counts k one).1 u))
