-- The dates that input lists give.
use Rattle.std.proofs.Common.{ℕ, ◌+◌, ◌*◌, ◌≤◌, ◌≡◌, Option, Some, None, refl, arith}
use Rattle.std.specs.Prelude.{IfSome, find, ◌==◌}
use Rattle.std.proofs.lemmas.Int.{ints}
use Rattle.teg_net.specs.declared.entries.InputList.{InputList}
use Rattle.teg_net.specs.Limits.{greatest_input_date}
use Rattle.teg_net.specs.Nets.{NetLists, IsNet, IsInputOf}
use Rattle.teg_net.specs.Inputs.{date_by_list, input_date}
use Rattle.teg_net.proofs.InputDates.{found_rules, list_date-most}
use Rattle.teg_model.specs.Datings.{as_date, listed_releases}
use Rattle.teg_model.specs.DateBounds.{IsDateWithin}
use Rattle.teg_model.proofs.Within.{AreWithin}

pub as_date_within : (o : Option ℕ) (n : ℕ) → IfSome o (λ d. d ≤ n) → IsDateWithin n (as_date o)
as_date_within None n h = tt
as_date_within (Some d) n h = (omega (arith, ints), omega (arith, ints, h))

date_by_most : (net : NetLists) (t k : ℕ) (o : Option InputList) → IsNet net → o ≡ find (λ l. l.transition.index == t) net.inputs → IfSome (date_by_list o k) (λ d. d ≤ greatest_input_date * (k + 1))
date_by_most net t k None ok e = omega arith
date_by_most net t k (Some l) ok e =
    let rules : IsInputOf net l = found_rules net net.inputs t l ok.each_input e in
    list_date-most l.dates l.again k rules.dates_in rules.again

-- what the dates that a net gives for firing k are at most
abbrev pub first_bound : ℕ → ℕ
first_bound k = greatest_input_date * (k + 1)

-- they stay within that bound, which grows with the number
pub listed_within : (net : NetLists) → IsNet net → AreWithin net (listed_releases net) first_bound
listed_within net ok = record {
  grows = λ j k l. omega arith;
  ready = omega arith;
  inputs = λ t k o i. as_date_within (input_date net t k) (greatest_input_date * (k + 1)) (date_by_most net t k (find (λ l. l.transition.index == t) net.inputs) ok refl);
}
