-- The times of best walks go on by steps.
use Rattle.std.proofs.Common.{ℕ, zero, suc, ◌+◌, ◌-◌, ◌*◌, ◌<◌, ◌≤◌, ◌≡◌, List, [], ◌∷◌, ◌++◌, length, sym, ap, subst, ◌∙◌, arith, ⊎_elim, ◌⊎◌, inl, inr}
use Rattle.std.specs.Prelude.{sum_by}
use Rattle.std.proofs.lemmas.Bool.{cases_lt}
use Rattle.std.proofs.lemmas.List.{length-append}
use Rattle.std.proofs.lemmas.List.Sums.{sum_by-append}
use Rattle.std.proofs.Math.Nat.{mul-le-mul_right, mul-le-mul_left}
use Rattle.settled_laws.proofs.number_laws_proofs.Numbers.{some_times}
use Rattle.settled_laws.specs.teg_net.declared.entries.PlaceId.{PlaceId}
use Rattle.settled_laws.specs.teg_net.Nets.{NetLists}
use Rattle.settled_laws.specs.teg_net.Circuits.{place_at, IsPathBetween, time_of, tokens_of}
use Rattle.settled_laws.proofs.teg_net_proofs.PathLaws.{IsPathBetween-append}
use Rattle.teg_loops.specs.Loops.{EndsBelow}
use Rattle.teg_loops.proofs.Taking.{Keeps, closed_keeps}
use Rattle.teg_loops.specs.ClosedPieces.{HasRound}
use Rattle.teg_loops.proofs.Again.{round_in, round_off, round_sum}
use Rattle.teg_loops.proofs.Visits.{Meets, FirstVisit, first_visit, joined_meets, rounds, rounds_lead, rounds_sum}
use Rattle.bound_laws.proofs.Best.{Setting, IsCriticalIn, MeetsCritical, bound, best_meets}

-- a path of some places begins at a transition of the net
pub start_in : (net : NetLists) (n a b : ℕ) (ps : List PlaceId) → EndsBelow net n → IsPathBetween net a ps b → 0 < length ps → a < n
start_in net n a b [] e h l = absurd (omega arith)
start_in net n a b (p ∷ ps) e h l = subst (λ (z : ℕ). z < n) h.1 (e.from_in p h.0)

-- a walk with m tokens fewer, or some multiple, that loses no more
pub record Swapped (e : NetLists) (a b j t c m : ℕ) (ps : List PlaceId) : Type 0 where
  pub times : ℕ
  pub some : 1 ≤ times
  pub walk : List PlaceId
  pub leads : IsPathBetween e j walk t
  pub meets : Meets e t walk c
  pub tokens : tokens_of e ps ≡ tokens_of e walk + times * m
  pub loss : b * time_of e ps ≤ b * time_of e walk + a * (times * m)

swap_loss : (a b time rest round x q m : ℕ) → time ≡ rest + round → b * round ≤ a * x → x ≡ q * m → b * time ≤ b * rest + a * (q * m)
swap_loss a b time rest round x q m e l f =
    let one : b * time ≡ b * rest + b * round = rw e (grind arith) in
    let two : a * x ≡ a * (q * m) = ap (λ (z : ℕ). a * z) f in
    omega arith

pub swap : (e : NetLists) (n T C P a b : ℕ) (y : ℕ → ℕ → ℕ) → Setting e n T C P a b y → (j t c m : ℕ) (ps : List PlaceId) → t < n → c < n → 0 < m → IsPathBetween e j ps t → Meets e t ps c
    → (n - 1) * m + n * m ≤ length ps → Swapped e a b j t c m ps
swap e n T C P a b y s j t c m ps lt lc pos_m h meets long =
    let f : PlaceId → ℕ = λ p. (place_at e p).tokens in
    let g : PlaceId → ℕ = λ p. (place_at e p).hold in
    let visit : FirstVisit e j t c ps = first_visit e c ps j t h meets in
    let u : List PlaceId = visit.before in
    let v : List PlaceId = visit.after in
    let whole : length ps ≡ length u + length v = ap (λ (z : List PlaceId). length z) visit.is ∙ length-append u v in
    let tokens : tokens_of e ps ≡ tokens_of e u + tokens_of e v = ap (sum_by f) visit.is ∙ sum_by-append f u v in
    let time : time_of e ps ≡ time_of e u + time_of e v = ap (sum_by g) visit.is ∙ sum_by-append g u v in
    ⊎_elim
    (λ (far : (n - 1) * m < length u).
    let r : HasRound e j c m ((n - 1) * m) u = round_off e n m c u j c s.ends lc lc visit.first pos_m far visit.off in
    let own : Keeps e a b r.round = closed_keeps e a b s.keeps r.round r.at r.closed r.some in
    let one : tokens_of e u ≡ tokens_of e (r.before ++ r.after) + tokens_of e r.round = round_sum f e j c m ((n - 1) * m) u r in
    let two : time_of e u ≡ time_of e (r.before ++ r.after) + time_of e r.round = round_sum g e j c m ((n - 1) * m) u r in
    let three : tokens_of e ((r.before ++ r.after) ++ v) ≡ tokens_of e (r.before ++ r.after) + tokens_of e v = sum_by-append f (r.before ++ r.after) v in
    let four : time_of e ((r.before ++ r.after) ++ v) ≡ time_of e (r.before ++ r.after) + time_of e v = sum_by-append g (r.before ++ r.after) v in
    let five = r.tokens in
    let left : IsPathBetween e j (r.before ++ r.after) c = IsPathBetween-append e r.before r.after j r.at c r.first r.last in
    record {
      times = r.times;
      some = some_times (tokens_of e r.round) m r.times own.some r.tokens;
      walk = (r.before ++ r.after) ++ v;
      leads = IsPathBetween-append e (r.before ++ r.after) v j c t left visit.last;
      meets = joined_meets e (r.before ++ r.after) v c t visit.last;
      tokens = omega arith;
      loss = swap_loss a b (time_of e ps) (time_of e ((r.before ++ r.after) ++ v)) (time_of e r.round) (tokens_of e r.round) r.times m (omega arith) own.ratio r.tokens;
    })
    (λ (near : length u ≤ (n - 1) * m).
    let r : HasRound e c t m (n * m) v = round_in e n m v c t s.ends lt visit.last pos_m (omega arith) in
    let own : Keeps e a b r.round = closed_keeps e a b s.keeps r.round r.at r.closed r.some in
    let one : tokens_of e v ≡ tokens_of e (r.before ++ r.after) + tokens_of e r.round = round_sum f e c t m (n * m) v r in
    let two : time_of e v ≡ time_of e (r.before ++ r.after) + time_of e r.round = round_sum g e c t m (n * m) v r in
    let three : tokens_of e (u ++ (r.before ++ r.after)) ≡ tokens_of e u + tokens_of e (r.before ++ r.after) = sum_by-append f u (r.before ++ r.after) in
    let four : time_of e (u ++ (r.before ++ r.after)) ≡ time_of e u + time_of e (r.before ++ r.after) = sum_by-append g u (r.before ++ r.after) in
    let five = r.tokens in
    let right : IsPathBetween e c (r.before ++ r.after) t = IsPathBetween-append e r.before r.after c r.at t r.first r.last in
    record {
      times = r.times;
      some = some_times (tokens_of e r.round) m r.times own.some r.tokens;
      walk = u ++ (r.before ++ r.after);
      leads = IsPathBetween-append e u (r.before ++ r.after) j c t visit.first right;
      meets = joined_meets e u (r.before ++ r.after) c t right;
      tokens = omega arith;
      loss = swap_loss a b (time_of e ps) (time_of e (u ++ (r.before ++ r.after))) (time_of e r.round) (tokens_of e r.round) r.times m (omega arith) own.ratio r.tokens;
    })
    (cases_lt ((n - 1) * m) (length u))

-- ---- rounds put in

pub record PutIn (e : NetLists) (j t r : ℕ) (ps cs : List PlaceId) : Type 0 where
  pub walk : List PlaceId
  pub leads : IsPathBetween e j walk t
  pub tokens : tokens_of e walk ≡ tokens_of e ps + r * tokens_of e cs
  pub time : time_of e walk ≡ time_of e ps + r * time_of e cs

pub put_in : (e : NetLists) (j t c r : ℕ) (ps cs : List PlaceId) → IsPathBetween e j ps t → Meets e t ps c → IsPathBetween e c cs c → PutIn e j t r ps cs
put_in e j t c r ps cs h meets closed =
    let f : PlaceId → ℕ = λ p. (place_at e p).tokens in
    let g : PlaceId → ℕ = λ p. (place_at e p).hold in
    let visit : FirstVisit e j t c ps = first_visit e c ps j t h meets in
    let u : List PlaceId = visit.before in
    let v : List PlaceId = visit.after in
    let one : tokens_of e ps ≡ tokens_of e u + tokens_of e v = ap (sum_by f) visit.is ∙ sum_by-append f u v in
    let two : time_of e ps ≡ time_of e u + time_of e v = ap (sum_by g) visit.is ∙ sum_by-append g u v in
    let three : tokens_of e (u ++ (rounds r cs ++ v)) ≡ tokens_of e u + (tokens_of e (rounds r cs) + tokens_of e v) =
    sum_by-append f u (rounds r cs ++ v) ∙ ap (λ (z : ℕ). tokens_of e u + z) (sum_by-append f (rounds r cs) v) in
    let four : time_of e (u ++ (rounds r cs ++ v)) ≡ time_of e u + (time_of e (rounds r cs) + time_of e v) =
    sum_by-append g u (rounds r cs ++ v) ∙ ap (λ (z : ℕ). time_of e u + z) (sum_by-append g (rounds r cs) v) in
    let five : tokens_of e (rounds r cs) ≡ r * tokens_of e cs = rounds_sum f cs r in
    let six : time_of e (rounds r cs) ≡ r * time_of e cs = rounds_sum g cs r in
    record {
      walk = u ++ (rounds r cs ++ v);
      leads = IsPathBetween-append e u (rounds r cs ++ v) j c t visit.first (IsPathBetween-append e (rounds r cs) v c c t (rounds_lead e c cs r closed) visit.last);
      tokens = omega arith;
      time = omega arith;
    }

-- ---- down to exactly k tokens

pub record CutDown (e : NetLists) (a b j t k by : ℕ) (ps : List PlaceId) : Type 0 where
  pub walk : List PlaceId
  pub leads : IsPathBetween e j walk t
  pub tokens : tokens_of e walk ≡ k
  pub loss : b * time_of e ps ≤ b * time_of e walk + a * by

far_enough : (T C P a b k : ℕ) → 1 ≤ a → bound T C P a b ≤ k → C * (T + C) < k
far_enough T C P a b k la far =
    let one : T + C ≤ a * (T + C) = (let z : 1 * (T + C) ≤ a * (T + C) = mul-le-mul_right {m = 1} {n = a} (T + C) la in omega arith) in
    let two : C * (T + C) ≤ C * (b * P + a * (T + C)) = mul-le-mul_left C (omega arith) in
    omega arith

spread : (a x y : ℕ) → a * (x + y) ≡ a * x + a * y
spread a x y = grind arith

spread_back : (x y m : ℕ) → (x + y) * m ≡ x * m + y * m
spread_back x y m = grind arith

cut_down_on : (e : NetLists) (n T C P a b : ℕ) (y : ℕ → ℕ → ℕ) → Setting e n T C P a b y → (t c k : ℕ) (cs : List PlaceId) → t < n → c < n → IsCriticalIn e a b c cs → bound T C P a b ≤ k
    → (fuel u j : ℕ) (ps : List PlaceId) → u < fuel → IsPathBetween e j ps t → Meets e t ps c → tokens_of e ps ≡ k + u * tokens_of e cs → CutDown e a b j t k (u * tokens_of e cs) ps
cut_down_on e n T C P a b y s t c k cs lt lc crit far zero u j ps l h meets tokens = absurd (omega arith)
cut_down_on e n T C P a b y s t c k cs lt lc crit far (suc fuel) zero j ps l h meets tokens = record { walk = ps; leads = h; tokens = omega arith; loss = omega arith }
cut_down_on e n T C P a b y s t c k cs lt lc crit far (suc fuel) (suc u) j ps l h meets tokens =
    let m : ℕ = tokens_of e cs in
    let own : Keeps e a b cs = s.keeps cs crit.circuit in
    let pos_m : 0 < m = own.some in
    let enough : C * (T + C) < k = far_enough T C P a b k s.a_some far in
    let w : Swapped e a b j t c m ps = swap e n T C P a b y s j t c m ps lt lc pos_m h meets (s.long ps j t m h (s.loop_tokens cs crit.circuit) (omega arith)) in
    let q : ℕ = w.times in
    ⊎_elim
    (λ (within : q ≤ suc u).
    let rest : ℕ = suc u - q in
    let parts : suc u ≡ rest + q = omega arith in
    let product : suc u * m ≡ rest * m + q * m = ap (λ (z : ℕ). z * m) parts ∙ spread_back rest q m in
    let some = w.some in
    let here = w.tokens in
    let old : CutDown e a b j t k (rest * m) w.walk = cut_down_on e n T C P a b y s t c k cs lt lc crit far fuel rest j w.walk (omega arith) w.leads w.meets (omega arith) in
    let one = w.loss in
    let two = old.loss in
    let three : a * (suc u * m) ≡ a * (rest * m) + a * (q * m) = ap (λ (z : ℕ). a * z) product ∙ spread a (rest * m) (q * m) in
    record { walk = old.walk; leads = old.leads; tokens = old.tokens; loss = omega arith })
    (λ (past : suc u < q).
    let more : ℕ = q - suc u in
    let parts : q ≡ suc u + more = omega arith in
    let product : q * m ≡ suc u * m + more * m = ap (λ (z : ℕ). z * m) parts ∙ spread_back (suc u) more m in
    let here = w.tokens in
    let put : PutIn e j t more w.walk cs = put_in e j t c more w.walk cs w.leads w.meets crit.at in
    let one = put.tokens in
    let two : b * time_of e put.walk ≡ b * time_of e w.walk + b * (more * time_of e cs) = ap (λ (z : ℕ). b * z) put.time ∙ spread b (time_of e w.walk) (more * time_of e cs) in
    let three : b * (more * time_of e cs) ≡ more * (b * time_of e cs) = grind arith in
    let four : more * (b * time_of e cs) ≡ more * (a * m) = ap (λ (z : ℕ). more * z) crit.critical in
    let five : more * (a * m) ≡ a * (more * m) = grind arith in
    let six : a * (q * m) ≡ a * (suc u * m) + a * (more * m) = ap (λ (z : ℕ). a * z) product ∙ spread a (suc u * m) (more * m) in
    let seven = w.loss in
    record { walk = put.walk; leads = put.leads; tokens = omega arith; loss = omega arith })
    (cases_le q (suc u)) where
      cases_le : (x z : ℕ) → (x ≤ z) ⊎ (z < x)
      cases_le x z = ⊎_elim (λ (p : z < x). inr p) (λ (p : x ≤ z). inl p) (cases_lt z x)

-- ---- one step

-- L is a multiple of the tokens of some critical circuit through each critical transition
abbrev pub IsCommonIn : NetLists → ℕ → ℕ → ℕ → Type 0
IsCommonIn e a b L = (c : ℕ) (ps : List PlaceId) → IsCriticalIn e a b c ps → (qs : List PlaceId) × IsCriticalIn e a b c qs × (u : ℕ) × (L ≡ u * tokens_of e qs)

cancel_le : (b x z : ℕ) → 1 ≤ b → b * x ≤ b * z → x ≤ z
cancel_le b x z lb l = ⊎_elim
    (λ (p : z < x). let more : b * (z + 1) ≤ b * x = mul-le-mul_left b (omega arith) in let parts : b * (z + 1) ≡ b * z + b = grind arith in absurd (omega arith))
    (λ (p : x ≤ z). p)
    (cases_lt z x)

scaled : (a b u m s L S : ℕ) → b * s ≡ a * m → L ≡ u * m → b * S ≡ a * L → b * (u * s) ≡ b * S
scaled a b u m s L S e f g =
    let one : b * (u * s) ≡ u * (b * s) = grind arith in
    let two : u * (b * s) ≡ u * (a * m) = ap (λ (z : ℕ). u * z) e in
    let three : u * (a * m) ≡ a * (u * m) = grind arith in
    let four : a * (u * m) ≡ a * L = ap (λ (z : ℕ). a * z) (sym f) in
    omega arith

pub goes_on : (e : NetLists) (n T C P a b : ℕ) (y : ℕ → ℕ → ℕ) → Setting e n T C P a b y → 1 ≤ b → (L S : ℕ) → IsCommonIn e a b L → b * S ≡ a * L
    → (t k : ℕ) → t < n → bound T C P a b ≤ k → y t (k + L) ≡ y t k + S
goes_on e n T C P a b y s lb L S common step t k lt far =
    let low : y t k + S ≤ y t (k + L) = up in
    let high : y t (k + L) ≤ y t k + S = down in
    omega arith where
      up : y t k + S ≤ y t (k + L)
      up =
          let best = s.reached t k lt in
          let ps : List PlaceId = best.1 in
          let time : time_of e ps ≡ y t k = best.5 in
          let tokens : tokens_of e ps ≡ k = best.4 in
          let meets : MeetsCritical e a b t ps = best_meets e n T C P a b y s t k best.0 ps lt far best.3 tokens time in
          let chosen = common meets.at meets.circuit meets.critical in
          let cs : List PlaceId = chosen.0 in
          let crit : IsCriticalIn e a b meets.at cs = chosen.1 in
          let u : ℕ = chosen.2 in
          let multiple : L ≡ u * tokens_of e cs = chosen.3 in
          let put : PutIn e best.0 t u ps cs = put_in e best.0 t meets.at u ps cs best.3 meets.meets crit.at in
          let one = put.tokens in
          let two = put.time in
          let three : time_of e put.walk ≤ y t (k + L) = s.greatest t (k + L) best.0 put.walk lt best.2 put.leads (omega arith) in
          let four : b * S ≤ b * (u * time_of e cs) = (let z = scaled a b u (tokens_of e cs) (time_of e cs) L S crit.critical multiple step in omega arith) in
          let five : S ≤ u * time_of e cs = cancel_le b S (u * time_of e cs) lb four in
          omega arith

      down : y t (k + L) ≤ y t k + S
      down =
          let best = s.reached t (k + L) lt in
          let ps : List PlaceId = best.1 in
          let time : time_of e ps ≡ y t (k + L) = best.5 in
          let tokens : tokens_of e ps ≡ k + L = best.4 in
          let meets : MeetsCritical e a b t ps = best_meets e n T C P a b y s t (k + L) best.0 ps lt (omega arith) best.3 tokens time in
          let chosen = common meets.at meets.circuit meets.critical in
          let cs : List PlaceId = chosen.0 in
          let crit : IsCriticalIn e a b meets.at cs = chosen.1 in
          let u : ℕ = chosen.2 in
          let multiple : L ≡ u * tokens_of e cs = chosen.3 in
          let cut : CutDown e a b best.0 t k (u * tokens_of e cs) ps =
          cut_down_on e n T C P a b y s t meets.at k cs lt
          (start_in e n meets.at meets.at cs s.ends crit.at crit.circuit.not_empty) crit far (suc u) u best.0 ps
          (omega arith) best.3 meets.meets (omega arith) in
          let one : time_of e cut.walk ≤ y t k = s.greatest t k best.0 cut.walk lt best.2 cut.leads cut.tokens in
          let two : b * time_of e cut.walk ≤ b * y t k = mul-le-mul_left b one in
          let three : a * (u * tokens_of e cs) ≡ a * L = ap (λ (z : ℕ). a * z) (sym multiple) in
          let four : b * time_of e ps ≤ b * time_of e cut.walk + a * (u * tokens_of e cs) = cut.loss in
          let five : b * y t (k + L) ≤ b * y t k + b * S = subst (λ (z : ℕ). b * z ≤ b * y t k + b * S) time (omega arith) in
          let six : b * (y t k + S) ≡ b * y t k + b * S = grind arith in
          cancel_le b (y t (k + L)) (y t k + S) lb (omega arith)
