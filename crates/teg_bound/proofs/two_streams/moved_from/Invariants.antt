use Rattle.std.proofs.Common.{ℕ, ◌+◌, ◌≤◌, ◌<◌, ◌≡◌}
use Rattle.dioid.specs.declared.dates.Date.{Date}
use Rattle.dioid.specs.Dates.{move}
use Rattle.std.specs.Prelude.{length}
use Rattle.periodic_laws.specs.teg_model.Datings.{IsLeastDating}
use Rattle.teg_bound.specs.MadeRows.{AreMadeOf}
use Rattle.teg_bound.proofs.two_streams.moved_from.Given as goal

abbrev pub invariant-loop-number : goal.invariant-loop-number
invariant-loop-number l = record {
  early_is : AreMadeOf l.net l.early;
  late_is : AreMadeOf l.net l.late;
  number : l.early.stream.last.number + 1 ≡ l.number;
  apart : l.late.stream.last.number ≡ l.early.stream.last.number + l.found.period;
  within : l.after < l.number;
  top : l.after ≤ l.found.last;
  moved : (x : ℕ → ℕ → Date) → IsLeastDating l.net x → (t k : ℕ) → t < length l.net.transitions → l.after < k → k < l.number
      → x t (k + l.found.period) ≡ move l.found.step (x t k);
  first : (x : ℕ → ℕ → Date) → IsLeastDating l.net x → 1 ≤ l.after
      → ((t : ℕ) → t < length l.net.transitions → x t (l.after + l.found.period) ≡ move l.found.step (x t l.after)) → ⊥;
}
