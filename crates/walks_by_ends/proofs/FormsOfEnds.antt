-- What is settled in the net in which an input leads to one transition alone is the form of the times of walks from there.
use Rattle.std.proofs.Common.{ℕ, ◌+◌, ◌<◌, ◌≤◌, ◌≡◌, length, refl, sym, subst, ap, ◌∙◌, arith}
use Rattle.dioid.specs.declared.dates.Date.{Date}
use Rattle.dioid.specs.Dates.{move}
use Rattle.teg_net.specs.declared.entries.PlaceId.{PlaceId}
use Rattle.teg_net.specs.Circuits.{from_of, no_place, place_at}
use Rattle.teg_net.specs.Nets.{NetLists, IsNet, IsInput}
use Rattle.teg_settle.specs.settled_laws.SettledForms.{SettledForm, StandsFor, settled_date, step_of_form}
use Rattle.teg_settle.specs.settled_forms.KeptForms.{IsFormKept}
use Rattle.teg_settle.specs.walk_times.Transfers.{IsGreatestWalkTime, IsTransferOf}
use Rattle.teg_settle.proofs.settled_laws_proofs.Telling.{form_tells}
use Rattle.end_laws.specs.Ends.{AreTimesFromEnd, EndsAreAsked, IsInner, net_led_to}
use Rattle.walks_by_ends.specs.EndForms.{IsEndForm}

module _ (asked : EndsAreAsked) (net : NetLists) (ok : IsNet net) (p : PlaceId) (there : p.index < length net.places) (is : IsInput net (from_of net p)) where
  abbrev u : ℕ
  u = from_of net p

  abbrev e : ℕ
  e = (place_at net p).to.index

  pub end_inner : IsInner net e
  end_inner = let rules = ok.each_place p.index no_place there in (rules.to_in, rules.enters_no_input)

  module _ (f : SettledForm) (transfer : IsTransferOf (net_led_to net u e) u f) (kept : IsFormKept f) (one : f.period ≡ 1) where
    x : ℕ → ℕ → Date
    x = transfer.0

    stands : StandsFor (length net.transitions) f x
    unfolding x
    stands = transfer.2.stands

    times : AreTimesFromEnd net e x
    unfolding x
    times = asked net ok u e is end_inner p (there, refl) transfer.0 transfer.1

    told : (t k : ℕ) → t < length net.transitions → 1 ≤ k → settled_date f t k ≡ x t k
    told t k l o = form_tells (length net.transitions) f x stands t k l o

    pub form_of_end : IsEndForm net e f
    form_of_end = record {
      wide = stands.sizes.rows_are;
      kept = kept;
      times = λ t k inner o. subst (IsGreatestWalkTime net e t k) (sym (told t k inner.0 o)) (times t k inner o);
      goes_on = λ t l k past.
          let on : x t (k + 1) ≡ move (step_of_form f t) (x t k) = subst (λ (n : ℕ). x t (k + n) ≡ move (step_of_form f t) (x t k)) one (stands.repeats.again t k l past) in
          told t (k + 1) l (omega arith) ∙ (on ∙ ap (move (step_of_form f t)) (sym (told t k l (omega (arith, past)))));
    }
