-- The number of rows by which a search without a limit has ended: the lists of the net tell it.
use Rattle.std.proofs.Common.{ℕ, ◌+◌, ◌<◌, ◌≤◌, arith, ⊎_elim}
use Rattle.std.proofs.lemmas.Bool.{cases_lt}
use Rattle.teg_net.specs.Nets.{NetLists}
use Rattle.teg_net.specs.Circuits.{IsLive}
use Rattle.teg_net.proofs.NetRules.{lists_by_rule, lists_rise, net_ends}
use Rattle.periodic_laws.specs.RepeatNumbers.{repeats_past, repeats_in, repeats_by}
use Rattle.periodic_laws.specs.LinearSystem.{LeastDatingsRepeat}
use Rattle.teg_settle.specs.declared.releases.Releases.{Releases}
use Rattle.teg_settle.specs.ComparedRows.{IsReady, IsRefuted}
use Rattle.teg_settle.specs.Steps.{AreOwnReleases}
use Rattle.teg_settle.proofs.Leasts.{least, least_is}
use Rattle.teg_settle.proofs.Owning.{own_least}

-- so many rows are enough
abbrev pub enough_rows : NetLists → ℕ → ℕ
enough_rows net most = repeats_past net + most + repeats_in net + repeats_in net

-- rows that show no form are fewer
pub fewer_unseen : LeastDatingsRepeat → (net : NetLists) → IsLive net → (r : Releases) → AreOwnReleases net r → (most : ℕ) → IsReady net r most
    → (count : ℕ) → ((period : ℕ) → IsRefuted net r most count period) → count < enough_rows net most
fewer_unseen law net live r own most h count none =
    let is = least_is net r most h in
    let ok = h.is_net in
    let repeats = law net (net_ends net ok) (lists_rise net ok) (lists_by_rule net ok) live (least net r most h) (own_least net r own.tokens own.waits (least net r most h) is) in
    ⊎_elim
    (λ (l : count < enough_rows net most). l)
    (λ (l : enough_rows net most ≤ count). absurd (none (repeats_in net) (least net r most h) is (repeats_past net) (repeats_by net) repeats (omega arith)))
    (cases_lt count (enough_rows net most))
