-- The shortest form of the least dates by a net's own releases is that of the net, and has the slopes of the net.
use Rattle.std.proofs.Common.{ℕ, List}
use Rattle.teg_net.specs.Nets.{NetLists, IsNet}
use Rattle.teg_net.proofs.NetRules.{lists_by_rule, lists_of_inputs, net_ends}
use Rattle.teg_check.specs.Ranks.{IsRanking}
use Rattle.teg_check.proofs.Liveness.{ranking_is_live}
use Rattle.periodic_laws.specs.settled_laws.SettledForms.{SettledForm, step_of_form, IsSettledFormOf, NetSettlesPast}
use Rattle.slope_laws.proofs.FormSlopes.{settled_forms_have_slopes}
use Rattle.teg_settle.specs.declared.refusals.SettleRefusal.{SettleRefusal}
use Rattle.teg_settle.specs.declared.releases.Releases.{Releases}
use Rattle.teg_settle.specs.LimitRefusals.{IsRightSettleRefusal}
use Rattle.teg_settle.specs.ComparedRows.{IsLeastForm, LeastSettlesPast}
use Rattle.teg_settle.specs.SlopesOfNets.{HasSlopes}
use Rattle.teg_settle.specs.Steps.{AreOwnReleases}
use Rattle.teg_settle.proofs.Limiting.{refusal_weaker}
use Rattle.teg_settle.proofs.Owning.{own_least}

module _ (net : NetLists) (r : Releases) (own : AreOwnReleases net r) where
  pub own_form : (f : SettledForm) → IsLeastForm net r f → IsSettledFormOf net f
  own_form f h = (h.0, own_least net r own.tokens own.waits h.0 h.1, h.2)

  pub own_refusal : (limit : ℕ) (e : SettleRefusal) → IsRightSettleRefusal (LeastSettlesPast net r limit) limit e → IsRightSettleRefusal (NetSettlesPast net limit) limit e
  own_refusal limit e = refusal_weaker (LeastSettlesPast net r limit) (NetSettlesPast net limit) limit e
      (λ h. (h.0, own_least net r own.tokens own.waits h.0 h.1, λ f s. h.2 f.after f.period (step_of_form f) s.repeats))

  pub own_slopes : (ranks : List ℕ) → IsNet net → IsRanking net ranks → (f : SettledForm) → IsLeastForm net r f → HasSlopes net f
  own_slopes ranks ok ranking f h =
      let least = own_least net r own.tokens own.waits h.0 h.1 in
      (h.0, least, h.2.stands, λ t l. settled_forms_have_slopes net (net_ends net ok) (lists_of_inputs net ok) (lists_by_rule net ok) (ranking_is_live net ranks ranking) h.0 least f h.2.stands t l)
