-- With inputs at 0 each date of a live net is a number, and the dates up to a number of firings have a bound.
use Rattle.std.proofs.Common.{ℕ, zero, suc, ◌+◌, ◌-◌, ◌<◌, ◌≤◌, ◌≡◌, Option, Some, None, length, refl, sym, ◌∙◌, arith, ⊎_elim}
use Rattle.std.specs.Prelude.{pos, negsuc}
use Rattle.std.proofs.lemmas.Bool.{cases_lt}
use Rattle.std.proofs.lemmas.Int.{ints}
use Rattle.teg_model.specs.dioid.declared.dates.Date.{Date}
use Rattle.teg_model.specs.dioid.declared.dates.Date.TheVariants.{Early, At, Never}
use Rattle.teg_model.specs.dioid.Dates.{IsAtMostDate, later_of}
use Rattle.teg_model.proofs.dioid_proofs.DateOrder.{at_most_is, at_most_trans, later_either}
use Rattle.teg_model.specs.teg_net.Nets.{NetLists, IsInput}
use Rattle.teg_model.specs.teg_net.ReadyDates.{start_date}
use Rattle.teg_model.specs.teg_net.Walks.{walk_time}
use Rattle.teg_model.specs.Datings.{at_input, system_of, IsLeastUnder}
use Rattle.teg_model.specs.Starts.{start_of_firing}
use Rattle.teg_model.specs.WalkDates.{IsDateOfWalk}
use Rattle.teg_model.proofs.DateFunctions.{Dating}
use Rattle.teg_model.proofs.GreatestWalks.{least_is_walk}
use Rattle.teg_model.proofs.LeastOver.{least_over}
use Rattle.teg_model.proofs.LiveRanks.{live_is_ranked}
use Rattle.teg_model.proofs.OfNet.{input_or_not, least_of, least_of_system}
use Rattle.teg_model.proofs.Tokens.{not_before_zero}
use Rattle.due_laws.specs.MeetingDueDates.{inputs_at_zero}
use Rattle.dating_laws.proofs.SlowerNets.{climb}
use Rattle.due_changes.specs.ShiftedDues.{later_due, LateDuesAreMet}
use Rattle.latest_laws.proofs.BackwardSolutions.{not_delayed}

-- a start is a number where the releases are at 0
start_comes : (net : NetLists) (a s : ℕ) → start_of_firing net inputs_at_zero a s ≡ Never → ⊥
start_comes net a s never =
    let ready : Date = At (pos (start_date net a s)) in
    let release : Date = at_input net a (At (pos 0)) Early in
    ⊎_elim
    (λ (e : later_of ready release ≡ ready). at_most_is Never ready (sym never ∙ e))
    (λ (e : later_of ready release ≡ release).
    ⊎_elim
    (λ (i : IsInput net a × (release ≡ At (pos 0))). at_most_is Never (At (pos 0)) (sym never ∙ (e ∙ i.1)))
    (λ (i : (release ≡ Early) × (release ≡ Early)). at_most_is Never Early (sym never ∙ (e ∙ i.0)))
    (input_or_not net a (At (pos 0)) Early Early))
    (later_either ready release)

number_or_never : (d : Date) → IsAtMostDate (At (pos 0)) d → (d ≡ Never → ⊥) → (z : ℕ) × (d ≡ At (pos z))
number_or_never Early first some = absurd first
number_or_never (At (pos z)) first some = (z, refl)
number_or_never (At (negsuc z)) first some = absurd (omega (arith, ints, first))
number_or_never Never first some = absurd (some refl)

-- finitely many numbers have a bound
bound_of_all : (dates : ℕ → Date) (n : ℕ) → ((t : ℕ) → t < n → (z : ℕ) × (dates t ≡ At (pos z))) → (c : ℕ) × ((t : ℕ) → t < n → IsAtMostDate (dates t) (At (pos c)))
bound_of_all dates zero h = (0, λ t l. absurd (omega (arith, l)))
bound_of_all dates (suc n) h =
    let rest = bound_of_all dates n (λ t l. h t (omega (arith, l))) in
    let own = h n (omega arith) in
    let c : ℕ = rest.0 + own.0 in
    let low : IsAtMostDate (At (pos rest.0)) (At (pos c)) = omega (arith, ints) in (
      c,
      λ t l.
          ⊎_elim
          (λ (m : t < n). at_most_trans (dates t) (At (pos rest.0)) (At (pos c)) (rest.1 t m) low)
          (λ (m : n ≤ t). let e : t ≡ n = omega (arith, l, m) in rw (e, own.1) (omega (arith, ints)))
          (cases_lt t n),
    )

due_of_later : (c d : ℕ) (o : Option ℕ) → later_due c o ≡ Some d → (e : ℕ) × (o ≡ Some e) × (c ≤ d)
due_of_later c d None h = cc
due_of_later c d (Some e) h = let is : e + c ≡ d = cc in (e, refl, omega (arith, is))

pub late_dues_met : LateDuesAreMet
late_dues_met net ok live due last up =
    let ends = ok in
    let ranked = live_is_ranked net ends live in
    let x : Dating = least_over (system_of net inputs_at_zero) ranked.0 ranked.1 in
    let least : IsLeastUnder net inputs_at_zero x = least_of_system net inputs_at_zero x (least_of net inputs_at_zero ranked.0 ranked.1 ranked.2) in
    let f = least.feasible in
    let comes : (t : ℕ) → t < length net.transitions → (z : ℕ) × (x t (last + 1) ≡ At (pos z)) =
    λ t l.
    number_or_never (x t (last + 1)) (not_before_zero net inputs_at_zero x f t (last + 1) l (omega arith))
    (λ never.
    let w : IsDateOfWalk net inputs_at_zero t (last + 1) (x t (last + 1)) = (least_is_walk net inputs_at_zero x ranked.0 ranked.1 ends ranked.2 least t (last + 1) l (omega arith)).reached in
    start_comes net w.from w.number (sym w.starts ∙ not_delayed (walk_time net w.steps) w.start (sym w.is ∙ never))) in
    let most = bound_of_all (λ t. x t (last + 1)) (length net.transitions) comes in (
      most.0,
      λ c enough. (
        x,
        least,
        λ t k d in' o h.
            let own = due_of_later c d (due t k) h in
            let few = up t k own.0 in' own.1 in
            let late = own.2 in
            let e : k + (last + 1 - k) ≡ last + 1 = omega (arith, few) in
            let rises : IsAtMostDate (x t k) (x t (last + 1)) = rw e at (climb net inputs_at_zero x f t k in' o (last + 1 - k)) in
            let low = at_most_trans (x t k) (x t (last + 1)) (At (pos most.0)) rises (most.1 t in') in
            at_most_trans (x t k) (At (pos most.0)) (At (pos d)) low (omega (arith, ints, enough, late)),
      ),
    )
