-- What is asked of the part of a net that the walks from an input reach, and what it tells of the net.
use Rattle.std.proofs.Common.{ℕ, ◌≡◌, List, get_or, ◌∙◌, arith}
use Rattle.std.proofs.lemmas.List.{get_or_default}
use Rattle.teg_net.specs.Nets.{NetLists, IsNet, IsInput}
use Rattle.teg_net.specs.Circuits.{IsLive}
use Rattle.teg_check.specs.Ranks.{IsRanking}
use Rattle.periodic_laws.specs.settled_laws.SettledForms.{SettledForm, step_of_form}
use Rattle.walk_times.specs.declared.reached.Part.{Part}
use Rattle.teg_settle.specs.declared.releases.Releases.{Releases}
use Rattle.teg_settle.specs.Alone.{IsReleasedAlone}
use Rattle.teg_settle.specs.ComparedRows.{IsLeastForm, LeastSettlesPast}
use Rattle.walk_times.specs.Reached.{IsPartFrom}
use Rattle.settled_forms.specs.Spread.{IsSpreadOut}
use Rattle.walk_times.specs.Transfers.{IsTransferOf, TransferSettlesPast}
use Rattle.walk_times.proofs.ReachedPart.{part_is_live, part_input, told_by, told_least, told_shortest, repeats_in_part}
use Rattle.walk_times.proofs.Walking.{input_within}
use Rattle.teg_settle.proofs.Transferring.{alone_here, alone_times}

-- the new number of the input, as it is read
pub own_there : (net : NetLists) (input : ℕ) (part : Part) → IsPartFrom net input part → IsInput net input → (n : ℕ) → n ≡ get_or part.new.items input n
    → n ≡ get_or part.new.items input 0
own_there net input part h given n is = is ∙ get_or_default part.new.items input n 0 (omega (arith, h.numbers.long, input_within net input given))

module _ (net : NetLists) (input : ℕ) (part : Part) (h : IsPartFrom net input part) (ok : IsNet net) (given : IsInput net input) where
  pub input_there : IsInput part.net (get_or part.new.items input 0)
  input_there = part_input net part.marks.items h.old part.new.items h.numbers h.closed.leads_on part.net h.transitions h.places ok h.wide input h.closed.begins given

  module _ (ranks : List ℕ) (ranking : IsRanking net ranks) where
    pub live_part : IsLive part.net
    live_part = part_is_live net part.marks.items h.old part.new.items h.numbers h.closed.leads_on part.net h.transitions h.places ok ranks ranking

    -- by releases of the input alone
    module _ (r : Releases) (made : IsReleasedAlone part.net (get_or part.new.items input 0) r) where
      pub form_told : (f g : SettledForm) → IsLeastForm part.net r f → IsSpreadOut part.marks.items part.new.items f g → IsTransferOf net input g
      form_told f g a spread =
          let least = told_least net part.marks.items h.old part.new.items h.numbers h.closed.leads_on part.net h.transitions h.places ok h.wide input h.closed.begins a.0
          (alone_here part.net r (get_or part.new.items input 0) input_there made.tokens made.waits a.0 a.1) in (
            told_by net part.marks.items h.old part.new.items h.numbers h.closed.leads_on part.net h.transitions h.places ok h.wide input h.closed.begins a.0,
            alone_times net input ranks ok ranking given _ least,
            told_shortest net part.marks.items h.old part.new.items h.numbers h.closed.leads_on part.net h.transitions h.places ok h.wide input h.closed.begins a.0 f g spread a.2,
          )

      pub past_told : (limit : ℕ) → LeastSettlesPast part.net r limit → TransferSettlesPast net input limit
      past_told limit a =
          let least = told_least net part.marks.items h.old part.new.items h.numbers h.closed.leads_on part.net h.transitions h.places ok h.wide input h.closed.begins a.0
          (alone_here part.net r (get_or part.new.items input 0) input_there made.tokens made.waits a.0 a.1) in (
            told_by net part.marks.items h.old part.new.items h.numbers h.closed.leads_on part.net h.transitions h.places ok h.wide input h.closed.begins a.0,
            alone_times net input ranks ok ranking given _ least,
            λ f stands. a.2 f.after f.period _
                (repeats_in_part net part.marks.items h.old part.new.items h.numbers h.closed.leads_on part.net h.transitions h.places ok
                h.wide input h.closed.begins a.0 f.after f.period (step_of_form f) stands.repeats),
          )
