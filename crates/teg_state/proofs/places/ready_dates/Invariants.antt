use Rattle.std.proofs.Common.{◌≡◌, ◌+◌, map}
use Rattle.std.specs.List.{range_with_len}
use Rattle.teg_net.specs.Circuits.{place_at}
use Rattle.state_laws.specs.NetsLeft.{not_before}
use Rattle.teg_state.specs.WhyNotLeft.{token_date_by}
use Rattle.teg_state.proofs.places.ready_dates.Given as goal

abbrev pub invariant-loop-index : goal.invariant-loop-index
invariant-loop-index l = l.ready.items ≡ map (λ k. not_before l.fn.now (token_date_by l.from (place_at l.net l.id) (l.fn.taken + k))) (range_with_len 1 l.index)
