-- Where dates are Never.
use Rattle.std.proofs.Common.{ℕ, zero, suc, ◌+◌, ◌-◌, ◌<◌, ◌≤◌, ◌≡◌, ◌≢◌, Option, Some, None, length, get_or, refl, sym, ap, subst, ◌∙◌, arith, ⊎_elim}
use Rattle.std.specs.Prelude.{pos, All, Contains}
use Rattle.settled_laws.specs.dioid.declared.dates.Date.{Date}
use Rattle.settled_laws.specs.dioid.declared.dates.Date.TheVariants.{Early, At, Never}
use Rattle.settled_laws.specs.dioid.Dates.{delayed, later_of}
use Rattle.settled_laws.proofs.dioid_proofs.DateOrder.{at_most_is, at_least_never, later_either}
use Rattle.settled_laws.specs.teg_net.declared.entries.Again.{Again}
use Rattle.settled_laws.specs.teg_net.declared.entries.InputList.{InputList}
use Rattle.settled_laws.specs.teg_net.Nets.{NetLists, IsInput, HasListsOfInputs, HasListsByRule, ListGoesOn}
use Rattle.settled_laws.specs.teg_net.Inputs.{moved_by, IsInputDates, input_date}
use Rattle.settled_laws.specs.teg_net.Circuits.{tokens_of}
use Rattle.settled_laws.specs.teg_net.Parts.{Reaches}
use Rattle.settled_laws.specs.teg_net.ReadyDates.{start_date}
use Rattle.settled_laws.specs.teg_net.Walks.{walk_time}
use Rattle.settled_laws.proofs.teg_net_proofs.InputDates.{dates_by_lists}
use Rattle.settled_laws.specs.teg_model.Datings.{listed_releases, as_date, at_input}
use Rattle.settled_laws.specs.teg_model.Starts.{start_of_firing}
use Rattle.settled_laws.specs.teg_model.WalkDates.{IsDateOfWalk}
use Rattle.settled_laws.proofs.teg_model_proofs.GreatestWalks.{least_is_walk}
use Rattle.settled_laws.proofs.teg_model_proofs.LiveRanks.{live_ranks}
use Rattle.settled_laws.proofs.teg_model_proofs.OfNet.{input_or_not}
use Rattle.settled_laws.proofs.teg_model_proofs.Tokens.{dates_climb}
use Rattle.slope_laws.specs.Slopes.{IsEndedTowards}
use Rattle.slope_laws.specs.SlopesExist.{NeversComeFromEndedLists}
use Rattle.slope_laws.proofs.WalkPaths.{IsPathOf, walk_path}
use Rattle.slope_laws.proofs.EndedLists.{rule_in, input_of, dates_by_list, rule_of, goes_past, ends_past, again_or_not, list_or_none, le_or_lt, IsSomeDate}
use Rattle.slope_laws.proofs.Lower.{path_keeps, climb_many}
use Rattle.slope_laws.proofs.Slopes.{least_keeps}

delayed_never : (n : ℕ) (d : Date) → delayed n d ≡ Never → d ≡ Never
delayed_never n Early e = absurd (at_most_is Never Early (sym e))
delayed_never n (At z) e = absurd (at_most_is Never (delayed n (At z)) (sym e))
delayed_never n Never e = e

never_given : (o : Option ℕ) → as_date o ≡ Never → o ≡ None
never_given None e = refl
never_given (Some d) e = absurd (at_most_is Never (At (pos d)) (sym e))

some_is_not : (d : ℕ) → Some d ≡ None → ⊥
some_is_not d e = subst IsSomeDate e tt

moved_none : (gap : ℕ) (o : Option ℕ) → moved_by gap o ≡ None → o ≡ None
moved_none gap None e = refl
moved_none gap (Some d) e = absurd (some_is_not (d + gap) e)

-- a list that goes on has no date that is never
never_none : (l : InputList) (again : Again) (u : ℕ → Option ℕ) → IsInputDates l u → l.again ≡ Some again → ListGoesOn l.dates again → (n s : ℕ) → s < n → 1 ≤ s → u s ≡ None → ⊥
never_none l again u h e g zero s m o is = absurd (omega arith)
never_none l again u h e g (suc n) s m o is =
    ⊎_elim
    (λ (q : s ≤ length l.dates). some_is_not (get_or l.dates (s - 1) 0) (sym (h.listed s o q) ∙ is))
    (λ (q : length l.dates < s).
    never_none l again u h e g n (s - again.every) (omega (arith, g.some, g.enough)) (omega (arith, g.enough))
    (moved_none again.gap (u (s - again.every)) (sym (goes_past (length l.dates) l.again again u e h.past s q) ∙ is)))
    (le_or_lt s (length l.dates))

-- an input whose date is never has a list that ends
ended_at : (net : NetLists) → HasListsOfInputs net → HasListsByRule net → (a b s : ℕ) → 1 ≤ s → Reaches net a b → input_date net a s ≡ None → (l : InputList) × IsEndedTowards net b l
ended_at net inputs rules a b s o reaches none =
    ⊎_elim
    (λ (f : (l : InputList) × Contains net.inputs l × (l.transition.index ≡ a)).
    let l : InputList = f.0 in
    let there : input_date net l.transition.index s ≡ None = subst (λ z. input_date net z s ≡ None) (sym f.2) none in
    ⊎_elim
    (λ (e : l.again ≡ None). (l, record { of_net = f.1; ends = e; reaches = subst (λ z. Reaches net z b) (sym f.2) reaches }))
    (λ (e : (g : Again) × (l.again ≡ Some g)).
    absurd (never_none l e.0 (input_date net l.transition.index) (dates_by_list net l inputs rules f.1) e.1 (rule_of l.dates l.again e.0 e.1 (rule_in net l rules f.1)) (suc s) s (omega arith) o there))
    (again_or_not l.again))
    (λ (f : All (λ x. x.transition.index ≢ a) net.inputs). absurd (some_is_not 0 (sym ((dates_by_lists net a inputs.one_list rules).no_list f s) ∙ none)))
    (list_or_none net.inputs a)

-- a start that is never is the release of an input
never_start : (net : NetLists) (a s : ℕ) → start_of_firing net (listed_releases net) a s ≡ Never → input_date net a s ≡ None
never_start net a s start =
    let ready : Date = At (pos (start_date net a s)) in
    let release : Date = at_input net a (listed_releases net a s) Early in
    ⊎_elim
    (λ (e : later_of ready release ≡ ready). absurd (at_most_is Never ready (sym start ∙ e)))
    (λ (e : later_of ready release ≡ release).
    ⊎_elim
    (λ (i : IsInput net a × (release ≡ listed_releases net a s)). never_given (input_date net a s) (sym i.1 ∙ (sym e ∙ start)))
    (λ (i : (release ≡ Early) × (release ≡ Early)). absurd (at_most_is Never Early (sym start ∙ (e ∙ i.0))))
    (input_or_not net a (listed_releases net a s) Early Early))
    (later_either ready release)

pub nevers_come_from_ended_lists : NeversComeFromEndedLists
nevers_come_from_ended_lists net ends inputs rules live x h b in' =
    let f = h.feasible in
    let ranks = live_ranks net ends live in
    record {
      ended = λ k o never.
          let w : IsDateOfWalk net (listed_releases net) b k (x b k) = (least_is_walk net (listed_releases net) x (suc (suc (length net.transitions))) ranks.0 ends ranks.1 h b k in' o).reached in
          let start : start_of_firing net (listed_releases net) w.from w.number ≡ Never = sym w.starts ∙ delayed_never (walk_time net w.steps) w.start (sym w.is ∙ never) in
          let path : IsPathOf net w.steps w.from w.number b k = walk_path net w.steps w.from w.number b k w.walk in
          ended_at net inputs rules w.from b w.number w.from_one (path.places, path.path) (never_start net w.from w.number start);
      never = λ l e.
          let s : ℕ = suc (length l.dates) in
          let t : ℕ = l.transition.index in
          let none = ends_past (length l.dates) l.again (input_date net t) e.ends (dates_by_list net l inputs rules e.of_net).past s (omega arith) in
          let here : listed_releases net t s ≡ Never = ap as_date none in
          let there : x t s ≡ Never = at_least_never (x t s) (rw here at (f.inputs t s (omega arith) (input_of net l inputs e.of_net))) in
          let on = path_keeps net x (least_keeps net x h) e.reaches.0 t b s (omega arith) e.reaches.1 in
          (s + tokens_of net e.reaches.0, omega arith, at_least_never (x b (s + tokens_of net e.reaches.0)) (rw there at on));
      on = λ k j o never. at_least_never (x b (k + j)) (rw never at (climb_many x b (λ s p. dates_climb net (listed_releases net) x f b s in' p) k j o));
    }
