-- The dates that are kept of made rows are those of the net's least dating.
use Rattle.std.proofs.Common.{ℕ, ℤ, ◌+◌, ◌-◌, ◌*◌, ◌^◌, ◌<◌, ◌≤◌, ◌≡◌, List, length, sym, ap, ◌∙◌, arith, ◌+ℤ◌}
use Rattle.std.proofs.lemmas.Int.{ints}
use Rattle.dioid.specs.declared.dates.Date.{Date}
use Rattle.dioid.specs.declared.dates.Date.TheVariants.{At}
use Rattle.dioid.specs.Dates.{move}
use Rattle.teg_net.specs.Limits.{greatest_hold, greatest_firing_number}
use Rattle.teg_net.specs.Nets.{NetLists}
use Rattle.periodic_laws.specs.teg_model.LiveRanks.{AreRanks}
use Rattle.periodic_laws.specs.teg_model.Systems.{IsLeastIn}
use Rattle.periodic_laws.specs.teg_model.DateBounds.{IsDateWithin}
use Rattle.periodic_laws.specs.teg_model.Datings.{IsLeastDating, listed_releases, system_of}
use Rattle.periodic_laws.specs.settled_laws.DateDifferences.{between}
use Rattle.periodic_laws.proofs.teg_model_proofs.DateFunctions.{Dating}
use Rattle.periodic_laws.proofs.teg_model_proofs.LeastOver.{least_over}
use Rattle.periodic_laws.proofs.teg_model_proofs.ListDates.{first_bound, listed_within}
use Rattle.periodic_laws.proofs.teg_model_proofs.OfNet.{least_is_over, least_of, ranks_extended}
use Rattle.periodic_laws.proofs.teg_model_proofs.Within.{within_more, least_in_within, net_is_bounded}
use Rattle.date_rows.specs.Streams.{date_back, rows_given, rows_kept}
use Rattle.date_rows.proofs.Ranking.{rank_of, ranks_of}
use Rattle.teg_bound.specs.declared.made_rows.MadeRows.{MadeRows}
use Rattle.teg_bound.specs.MadeRows.{AreMadeOf}

-- ---- steps between numbers

pub moved_by : (d e : Date) (a b s : ℤ) → d ≡ At a → e ≡ At b → between d e ≡ s → e ≡ move s d
moved_by d e a b s da eb h =
    let gap : between (At a) (At b) ≡ s = rw (da, eb) at h in
    eb ∙ (ap At (omega (arith, ints, gap)) ∙ sym (ap (move s) da))

pub step_of : (d e : Date) (a s : ℤ) → d ≡ At a → e ≡ move s d → between d e ≡ s
step_of d e a s da h =
    let there : e ≡ At (a +ℤ s) = h ∙ ap (move s) da in
    rw (there, da) (omega (arith, ints))

-- ---- the dates

module _ (net : NetLists) (m : MadeRows) (h : AreMadeOf net m) where
  abbrev ranks : List ℕ
  ranks = h.stream.order.0

  of_ranks : AreRanks net.places 400 (rank_of ranks)
  of_ranks = ranks_of net ranks h.stream.rules h.stream.order.1

  abbrev made : Dating
  made = least_over (system_of net (listed_releases net)) 400 (rank_of ranks)

  made_in : IsLeastIn (system_of net (listed_releases net)) made
  made_in = least_of net (listed_releases net) 400 (rank_of ranks) of_ranks

  -- each least dating has them
  pub made_dates : (x : Dating) → IsLeastDating net x → (t b : ℕ) → t < length net.transitions → 1 ≤ b → b ≤ rows_kept m.stream.last
      → date_back m.stream.last t b ≡ x t (rows_given m.stream + 1 - b)
  made_dates x least t b l o k =
      (h.stream.least made made_in).same t b l o k
      ∙ least_is_over net (listed_releases net) x 400 (rank_of ranks) of_ranks least t (rows_given m.stream + 1 - b) l (omega (arith, k))

  -- they leave room for a difference
  pub made_within : rows_given m.stream ≤ greatest_firing_number → (t b : ℕ) → t < length net.transitions → 1 ≤ b → b ≤ rows_kept m.stream.last
      → IsDateWithin (2 ^ 126) (date_back m.stream.last t b)
  made_within few t b l o k =
      let rr = ranks_extended net 400 (rank_of ranks) of_ranks in
      let low = rr.below t in
      let n : ℕ = rows_given m.stream + 1 - b in
      rw ((h.stream.least made made_in).same t b l o k)
      (within_more (first_bound n + greatest_hold * (n * 400 + rank_of ranks t)) (2 ^ 126) (made t n) (omega (arith, few, low, o))
      (least_in_within (system_of net (listed_releases net)) 400 greatest_hold (rank_of ranks) first_bound made rr
      (net_is_bounded net (listed_releases net) first_bound h.stream.rules (listed_within net h.stream.rules)) made_in t n (omega (arith, k))))
