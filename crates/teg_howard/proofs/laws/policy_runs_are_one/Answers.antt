use Rattle.std.proofs.Common.{ℕ, ◌≡◌, List, [], ◌∷◌, length, get_or, ap, arith}
use Rattle.std.specs.Prelude.{ℤ}
use Rattle.teg_net.specs.declared.rounds.Round.{Round}
use Rattle.teg_net.specs.Nets.{NetLists}
use Rattle.teg_net.specs.Circuits.{IsLive}
use Rattle.policy_rounds.specs.Policies.{Policy}
use Rattle.teg_net.specs.Parts.{ListsMembers}
use Rattle.policy_rounds.specs.PolicyRounds.{chosen_for, IsPolicyRun}
use Rattle.policy_rounds.specs.OnePolicyRun.{AreSameRounds}
use Rattle.teg_howard.proofs.Listing.{same_choices}
use Rattle.policy_rounds.proofs.OneRun.{each_round}
use Rattle.policy_rounds.proofs.OneRun.{Equal, one_run}
use Rattle.teg_howard.proofs.laws.policy_runs_are_one.Goals as goal

same_rounds : (part_of : List ℕ) (part : ℕ) (r q : Round) → ListsMembers part_of part (chosen_for r.choices.items)
    → ListsMembers part_of part (chosen_for q.choices.items) → Equal r q → AreSameRounds r q
same_rounds part_of part r q h k e = record {
  choices = same_choices part_of part r q h k e.choices e.values;
  places = λ t. ap (λ (f : Policy). f t) e.choices;
  potentials = λ t. ap (λ (f : ℕ → ℤ). f t) e.values;
  circuit = e.circuit;
  ratio = λ i. record { time = e.time i; tokens = e.tokens i };
}

same_count : (net : NetLists) (part_of : List ℕ) (part : ℕ) → IsLive net → (rs qs : List Round) → IsPolicyRun net part_of part rs → IsPolicyRun net part_of part qs → length rs ≡ length qs
same_count net part_of part live [] qs h k = absurd (omega (arith, h.run.some))
same_count net part_of part live (r ∷ rs) qs h k = (one_run net part_of part live (r ∷ rs) qs r h k).0

pub returns : goal.returns
returns c = λ net part_of part rs qs live h k.
    record {
      count = same_count net part_of part live rs qs h k;
      rounds = λ i d l.
          let one = one_run net part_of part live rs qs d h k in
          same_rounds part_of part (get_or rs i d) (get_or qs i d) (each_round net part_of part rs h.run i d l).members
          (each_round net part_of part qs k.run i d (omega (arith, l, one.0))).members (one.1 i l);
    }
