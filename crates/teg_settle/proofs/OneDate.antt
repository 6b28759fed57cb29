-- One date of the least dating, by rows or by the form that they show.
use Rattle.std.proofs.Common.{ℕ, ◌≤◌, ◌<◌, ◌≡◌, length}
use Rattle.teg_net.specs.Nets.{NetLists}
use Rattle.periodic_laws.specs.settled_laws.SettledForms.{SettledForm, settled_date}
use Rattle.periodic_laws.proofs.settled_laws_proofs.Telling.{form_tells}
use Rattle.date_rows.specs.DateTables.{TableDates, date_at}
use Rattle.teg_settle.specs.declared.releases.Tokens.TheVariants.{Ready}
use Rattle.teg_settle.specs.declared.releases.Releases.{Releases}
use Rattle.teg_settle.specs.InitialReleases.{AreWaits, wait_of}
use Rattle.teg_settle.specs.ComparedRows.{AreRowsOf, IsLeastForm, IsReady}
use Rattle.teg_settle.specs.LeastDates.{IsLeastDate}
use Rattle.teg_settle.proofs.Leasts.{least, least_is}
use Rattle.teg_settle.proofs.Owning.{own_least}

module _ (net : NetLists) (r : Releases) (own : r.tokens ≡ Ready) (waits : AreWaits net (wait_of net) r.waits.items) where
  -- by a form
  pub told_date : (f : SettledForm) → IsLeastForm net r f → (t k : ℕ) → t < length net.transitions → 1 ≤ k → IsLeastDate net t k (settled_date f t k)
  told_date f h t k l o = (h.0, own_least net r own waits h.0 h.1, form_tells (length net.transitions) f h.0 h.2.stands t k l o)

  -- by rows
  pub row_date : (most : ℕ) → IsReady net r most → (rows : TableDates) → AreRowsOf net r rows → (t k : ℕ) → t < length net.transitions → 1 ≤ k → k ≤ rows.count
      → IsLeastDate net t k (date_at rows t k)
  row_date most h rows a t k l o m =
      (least net r most h, own_least net r own waits (least net r most h) (least_is net r most h), a.least.least (least net r most h) (least_is net r most h) t k l o m)
