-- The settled form of a net of releases is that of the delayed dating and the releases together.
use Rattle.std.proofs.Common.{ℕ, ◌+◌, length, subst}
use Rattle.periodic_laws.specs.teg_model.Datings.{listed_releases}
use Rattle.periodic_laws.proofs.teg_model_proofs.DateFunctions.{Dating}
use Rattle.settled_laws.specs.SettledForms.{IsShortestForm, SettlesPast}
use Rattle.delay_laws.specs.Delays.{together}
use Rattle.delay_laws.specs.SettlingLaws.{ReleaseNetsTellDelays}
use Rattle.settled_laws.proofs.Alike.{shortest_alike, past_alike}
use Rattle.delay_laws.proofs.DerivedDates.{beside, is_delayed, are_alike}

pub release_nets_tell_delays : ReleaseNetsTellDelays
release_nets_tell_delays net ends live period t derived own inputs rules r =
    let n : ℕ = length net.transitions in
    let w : Dating = λ i k. listed_releases derived (n + i) k in
    record {
      forms = λ f h.
          let y : Dating = h.0 in
          let x : Dating = beside n y w in
          let short : IsShortestForm (n + n) f y = subst (λ (c : ℕ). IsShortestForm c f y) r.twice h.2 in
          (x, w, is_delayed net ends live period t derived own inputs rules r y h.1, shortest_alike (n + n) f y (together n x w) (are_alike net ends live period t derived own inputs rules r y h.1) short);
      past = λ limit h.
          let y : Dating = h.0 in
          let x : Dating = beside n y w in
          let long : SettlesPast (n + n) y limit = subst (λ (c : ℕ). SettlesPast c y limit) r.twice h.2 in
          (x, w, is_delayed net ends live period t derived own inputs rules r y h.1, past_alike (n + n) y (together n x w) limit (are_alike net ends live period t derived own inputs rules r y h.1) long);
    }
