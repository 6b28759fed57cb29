-- The releases so far, with those of one transition more; and what they come to.
use Rattle.std.proofs.Common.{ℕ, ◌+◌, ◌<◌, ◌≤◌, ◌≡◌, ◌∷◌, [], ◌++◌, List, true, length, refl, sym, subst, ap, ◌∙◌, arith, ⊎_elim}
use Rattle.std.proofs.lemmas.Bool.{cases_lt}
use Rattle.std.proofs.lemmas.List.{length-append}
use Rattle.teg_net.specs.Nets.{NetLists, IsNet, IsInput}
use Rattle.teg_net.proofs.NetRules.{net_ends}
use Rattle.teg_net.specs.Circuits.{IsLive}
use Rattle.teg_due.specs.RowNames.{is_input}
use Rattle.forever_laws.specs.due_laws.LatestDates.{IsLatestDate}
use Rattle.endless_due.specs.declared.row.EndlessRow.{EndlessRow}
use Rattle.endless_due.specs.EndlessRows.{due_on}
use Rattle.forever_laws.specs.EndlessDues.{LatestAtInputsAreLatest}
use Rattle.teg_forever.specs.declared.releases.Release.{Release}
use Rattle.teg_forever.specs.declared.releases.Release.TheVariants.{Free, Latest}
use Rattle.teg_forever.specs.LatestReleases.{AreBeside, AreEndlessReleases, IsFine, IsReleaseOf, inputs_below, inputs_of, release_date, released, release_in}
use Rattle.teg_forever.specs.InputAnswers.{AreReleasesBelow, IsFineRelease}
use Rattle.forever_laws.proofs.Inputs.{input_in as input_within}
use Rattle.teg_forever.proofs.InputLists.{inputs_more, input_test, input_in, beside_more, beside_in}

module _ (net : NetLists) (rows : List EndlessRow) (n : ℕ) (releases : List Release) (h : AreReleasesBelow net rows n releases) where
  one_fine : (IsInput net n → IsFine net rows n) → (u : ℕ) → u < n + 1 → IsInput net u → IsFine net rows u
  one_fine here u w i = ⊎_elim (λ low. h.fine u low i) (λ high. let e : n ≡ u = omega arith in subst (IsFine net rows) e (here (subst (IsInput net) (sym e) i))) (cases_lt u n)

  -- an input with its release
  pub below_more : (r : Release) → is_input net n ≡ true → IsFineRelease net rows n r → AreReleasesBelow net rows (n + 1) (releases ++ r ∷ [])
  below_more r told is =
      let e = inputs_more net n told in
      record {
        meet = h.meet;
        fine = one_fine (λ i. is.fine);
        each_input = length-append releases (r ∷ []) ∙ ap (λ (k : ℕ). k + 1) h.each_input ∙ sym (length-append (inputs_below net n) (n ∷ [])) ∙ ap (λ (l : List ℕ). length l) (sym e);
        right = subst (λ (l : List ℕ). AreBeside (IsReleaseOf net rows) l (releases ++ r ∷ [])) (sym e) (beside_more (IsReleaseOf net rows) (inputs_below net n) releases n r h.right is.right);
      }

-- a right release has the latest date of each firing
latest_is : (net : NetLists) (rows : List EndlessRow) (u k : ℕ) (r : Release) → 1 ≤ k → IsReleaseOf net rows u r → IsLatestDate net (due_on rows) u k (release_date r k)
latest_is net rows u k Free one h = record {
  attained = λ other. absurd (other refl);
  least = λ d is. absurd (h k one is.steps is.to is.number is.due_date is.walk is.is_due);
}
latest_is net rows u k (Latest s) one h = (h.1 k one).0

-- the releases of all inputs
pub all_releases : (net : NetLists) (rows : List EndlessRow) (releases : List Release) → LatestAtInputsAreLatest → IsNet net → IsLive net
    → AreReleasesBelow net rows (length net.transitions) releases → AreEndlessReleases net rows releases
all_releases net rows releases law ok live h = record {
  meet = h.meet;
  fine = λ u i. h.fine u (input_within net u i) i;
  each_input = h.each_input;
  right = h.right;
  latest = law net (net_ends net ok) live (due_on rows) h.meet (released net releases)
      (λ t k i one. latest_is net rows t k (release_in (inputs_of net) releases t) one
      (beside_in (IsReleaseOf net rows) (inputs_of net) releases t h.right (input_in net t (length net.transitions) (input_test net t i) (input_within net t i))));
}
