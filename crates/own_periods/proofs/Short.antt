-- The first rows of a live net without inputs are short.
use Rattle.std.proofs.Common.{ℕ, ℤ, pos, ◌+◌, ◌*◌, ◌^◌, ◌<◌, ◌≤◌, ◌≡◌, List, length, refl, sym, subst, arith}
use Rattle.std.specs.Prelude.{negsuc}
use Rattle.std.proofs.lemmas.Int.{ints}
use Rattle.dioid.specs.declared.dates.Date.{Date}
use Rattle.dioid.specs.declared.dates.Date.TheVariants.{Early, At, Never}
use Rattle.teg_net.specs.Limits.{greatest_hold}
use Rattle.teg_net.specs.Nets.{NetLists, IsNet, IsInput}
use Rattle.teg_check.specs.Ranks.{IsRanking}
use Rattle.teg_model.specs.DateBounds.{IsDateWithin}
use Rattle.teg_model.specs.LiveRanks.{AreRanks}
use Rattle.teg_model.specs.Datings.{listed_releases}
use Rattle.teg_model.proofs.ListDates.{first_bound, listed_within}
use Rattle.teg_model.proofs.Within.{least_within}
use Rattle.date_rows.specs.DateTables.{TableDates, date_at, HasLeastDates}
use Rattle.date_rows.proofs.Ranking.{rank_of, ranks_of}
use Rattle.own_periods.specs.OwnRows.{AreShortRows, IsShort}
use Rattle.own_periods.proofs.Dates.{numbers}

short_of : (d : Date) (z : ℤ) (n : ℕ) → d ≡ At z → IsDateWithin n d → n ≤ 2 ^ 80 → IsShort d
short_of Early z n e h l = let f : ⊥ = cc in absurd f
short_of (At (pos m)) z n e h l = let up = h.1 in record { is = refl; small = omega (arith, ints, up, l) }
short_of (At (negsuc m)) z n e h l = absurd (let low = h.0 in omega (arith, ints, low))
short_of Never z n e h l = let f : ⊥ = cc in absurd f

pub short_rows : (net : NetLists) → IsNet net → (ranks : List ℕ) → IsRanking net ranks → ((t : ℕ) → IsInput net t → ⊥)
    → (rows : TableDates) → rows.width ≡ length net.transitions → rows.count ≡ 10000 → HasLeastDates net rows → AreShortRows rows
short_rows net ok ranks ranking none rows wide count told = record {
  count = count;
  short = λ t k l o m.
      let t_in : t < length net.transitions = omega (arith, l, wide) in
      let rr : AreRanks net.places 400 (rank_of ranks) = ranks_of net ranks ok ranking in
      let low = rr.below t in
      let number = numbers net ok ranks ranking none told.0 told.1 t k t_in o in
      let bound = least_within net (listed_releases net) told.0 400 (rank_of ranks) first_bound ok rr (listed_within net ok) told.1 t k t_in o in
      let same : date_at rows t k ≡ told.0 t k = told.2 t k t_in o (omega (arith, m, count)) in
      subst IsShort (sym same) (short_of (told.0 t k) number.0 (first_bound k + greatest_hold * (k * 400 + rank_of ranks t)) number.1 bound (omega (arith, m, low)));
}
