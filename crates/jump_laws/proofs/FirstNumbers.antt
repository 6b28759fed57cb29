-- Dates that up to a number are feasible and tight in a system are there its least dates: what stands behind is cut off.
use Rattle.std.proofs.Common.{ℕ, ◌<◌, ◌≤◌, ◌≡◌, ◌-◌, true, false, leb, get_or, refl, subst, arith, ⊎_elim}
use Rattle.std.specs.Prelude.{All, nat_le, if◌then◌else◌}
use Rattle.std.proofs.lemmas.Bool.{cases_lt}
use Rattle.std.proofs.lemmas.Bool.Decides.{nat_tests}
use Rattle.dioid.specs.declared.dates.Date.{Date}
use Rattle.dioid.specs.declared.dates.Date.TheVariants.{Never}
use Rattle.dioid.specs.Dates.{IsAtMostDate}
use Rattle.dioid.proofs.DateOrder.{never_last, same_by_at_most}
use Rattle.teg_net.specs.declared.entries.Place.{Place}
use Rattle.teg_model.specs.Systems.{System, available, IsFeasibleIn, IsLeastIn, IsTightIn}
use Rattle.teg_model.specs.LiveRanks.{AreRanks}
use Rattle.teg_model.proofs.DateFunctions.{Dating}
use Rattle.teg_model.proofs.TightLeast.{tight_is_least_in}
use Rattle.teg_model.proofs.Tokens.{available_same}

-- the date is at most z: each token that the firing takes, and its release, is there by z
pub record IsThereBy (s : System) (x : Dating) (t k : ℕ) (z : Date) : Type 0 where
  pub tokens : All (λ p. p.to.index ≡ t → IsAtMostDate (available s x p k) z) s.places
  pub release : IsAtMostDate (s.release t k) z

-- the date of the firing is the latest of what it waits for
pub record IsLatest (s : System) (x : Dating) (t k : ℕ) : Type 0 where
  pub there : IsThereBy s x t k (x t k)
  pub least : (z : Date) → IsThereBy s x t k z → IsAtMostDate (x t k) z

-- the dates up to a number, and Never past it
abbrev cut : ℕ → Dating → Dating
cut last v t k = if nat_le k last then v t k else Never

cut_in : (last : ℕ) (v : Dating) (t k : ℕ) → k ≤ last → cut last v t k ≡ v t k
cut_in last v t k m = let b : leb k last ≡ true = grind (arith, nat_tests) in rw b refl

cut_past : (last : ℕ) (v : Dating) (t k : ℕ) → last < k → cut last v t k ≡ Never
cut_past last v t k m = let b : leb k last ≡ false = grind (arith, nat_tests) in rw b refl

cut_system : System → ℕ → System
cut_system s last = record { places = s.places; initial = s.initial; release = cut last s.release }

cut_available : (s : System) (last : ℕ) (v : Dating) (p : Place) (k : ℕ) → k ≤ last → available s (cut last v) p k ≡ available s v p k
cut_available s last v p k m = available_same s.initial (cut last v) v p k (λ q. cut_in last v p.from.index (k - p.tokens) (omega (arith, m)))

-- what is cut off keeps the places where the dates do up to the number
cut_keeps : (s : System) (v : Dating) (last : ℕ) → ((t k : ℕ) → 1 ≤ k → k ≤ last → IsThereBy s v t k (v t k))
    → (k : ℕ) → 1 ≤ k → All (λ p. IsAtMostDate (available s (cut last v) p k) (cut last v p.to.index k)) s.places
cut_keeps s v last h k o i d l =
    let p : Place = get_or s.places i d in
    ⊎_elim
    (λ (m : last < k). rw (cut_past last v p.to.index k m) (never_last (available s (cut last v) p k)))
    (λ (m : k ≤ last). rw (cut_in last v p.to.index k m, cut_available s last v p k m) ((h p.to.index k o m).tokens i d l refl))
    (cases_lt last k)

cut_feasible : (s : System) (v : Dating) (last : ℕ) → ((t k : ℕ) → 1 ≤ k → k ≤ last → IsThereBy s v t k (v t k)) → IsFeasibleIn (cut_system s last) (cut last v)
unfolding cut_system
cut_feasible s v last h = record {
  places = cut_keeps s v last h;
  releases = λ t k o.
      ⊎_elim
      (λ (m : last < k). rw (cut_past last v t k m) (never_last (cut last s.release t k)))
      (λ (m : k ≤ last). rw (cut_in last v t k m, cut_in last s.release t k m) ((h t k o m).release))
      (cases_lt last k);
}

cut_under : (s : System) (v : Dating) (last : ℕ) → ((t k : ℕ) → 1 ≤ k → k ≤ last → IsThereBy s v t k (v t k)) → IsFeasibleIn s (cut last v)
cut_under s v last h = record {
  places = cut_keeps s v last h;
  releases = λ t k o.
      ⊎_elim
      (λ (m : last < k). rw (cut_past last v t k m) (never_last (s.release t k)))
      (λ (m : k ≤ last). rw (cut_in last v t k m) ((h t k o m).release))
      (cases_lt last k);
}

cut_tight : (s : System) (v : Dating) (last : ℕ) → ((t k : ℕ) → 1 ≤ k → k ≤ last → IsLatest s v t k) → IsTightIn (cut_system s last) (cut last v)
unfolding cut_system
cut_tight s v last h = record {
  tight = λ t k z o all under.
      ⊎_elim
      (λ (m : last < k). rw (cut_past last v t k m) (rw (cut_past last s.release t k m) at under))
      (λ (m : k ≤ last).
      rw (cut_in last v t k m)
      ((h t k o m).least z (record {
        tokens = λ i d l e. rw (cut_available s last v (get_or s.places i d) k m) at (all i d l e);
        release = rw (cut_in last s.release t k m) at under;
      })))
      (cases_lt last k);
}

-- dates that are the latest of what they wait for up to a number are there those of the least dating
pub first_numbers : (s : System) (bound : ℕ) (r : ℕ → ℕ) → AreRanks s.places bound r → (y x : Dating) (last : ℕ)
    → ((t k : ℕ) → 1 ≤ k → k ≤ last → IsLatest s y t k) → IsLeastIn s x → (t k : ℕ) → 1 ≤ k → k ≤ last → y t k ≡ x t k
unfolding cut_system
first_numbers s bound r rr y x last h least t k o m =
    let there : (t k : ℕ) → 1 ≤ k → k ≤ last → IsThereBy s y t k (y t k) = λ t k o m. (h t k o m).there in
    let own : (t k : ℕ) → 1 ≤ k → k ≤ last → IsThereBy s x t k (x t k) = λ t k o m. record {
      tokens = λ i d l e. subst (λ v. IsAtMostDate (available s x (get_or s.places i d) k) (x v k)) e (least.feasible.places k o i d l);
      release = least.feasible.releases t k o;
    } in
    let in_cut : IsLeastIn (cut_system s last) (cut last y) =
    tight_is_least_in (cut_system s last) (cut last y) bound r rr (cut_feasible s y last there) (cut_tight s y last h) in
    let below = in_cut.least (cut last x) (cut_feasible s x last own) t k o in
    let above = least.least (cut last y) (cut_under s y last there) t k o in
    same_by_at_most (y t k) (x t k) (rw (cut_in last y t k m, cut_in last x t k m) at below) (rw (cut_in last y t k m) at above)
