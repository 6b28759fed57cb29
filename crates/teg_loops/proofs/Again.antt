-- A long path meets one transition twice with a multiple of m tokens between.
use Rattle.std.proofs.Common.{ℕ, zero, suc, ◌+◌, ◌-◌, ◌*◌, ◌%◌, ◌<◌, ◌≤◌, ◌≡◌, ◌≢◌, List, [], ◌∷◌, ◌++◌, length, get_or, take, drop, refl, sym, ap}
use Rattle.std.proofs.Common.{subst, ◌∙◌, arith, ⊎_elim, ◌⊎◌, cond, ltb, Bool, true, false}
use Rattle.std.specs.Prelude.{All, sum_by}
use Rattle.std.proofs.lemmas.Bool.{cases_lt}
use Rattle.std.proofs.lemmas.Bool.Decides.{nat_tests}
use Rattle.std.proofs.lemmas.List.{length-take-le, length-drop, take-append-drop}
use Rattle.std.proofs.lemmas.List.Sums.{sum_by-append}
use Rattle.std.proofs.lemmas.Nat.{mod_below}
use Rattle.std.proofs.Math.Nat.{mul-le-mul_right}
use Rattle.std.proofs.Math.Seq.{take-append-add}
use Rattle.teg_net.specs.declared.entries.PlaceId.{PlaceId}
use Rattle.teg_net.specs.Nets.{NetLists}
use Rattle.teg_net.specs.Circuits.{place_at, from_of, IsPathBetween, tokens_of}
use Rattle.teg_net.proofs.PathLaws.{no_id}
use Rattle.teg_loops.specs.Loops.{EndsBelow}
use Rattle.teg_loops.specs.ClosedPieces.{HasRound}
use Rattle.teg_loops.specs.PathSplitting.{LongPathsComeRound}
use Rattle.teg_loops.proofs.Stops.{met, met_at, met_below, to_met, from_met}
use Rattle.teg_net.proofs.number_laws_proofs.Pigeons.{pigeons, difference}

abbrev meets : NetLists → ℕ → List PlaceId → ℕ → ℕ
meets net b ps i = get_or (met net b ps) i 0

abbrev tokens_to : NetLists → List PlaceId → ℕ → ℕ
tokens_to net ps i = tokens_of net (take i ps)

met_drop : (net : NetLists) (b : ℕ) (ps : List PlaceId) (i k : ℕ) → i ≤ length ps → meets net b (drop i ps) k ≡ meets net b ps (i + k)
met_drop net b ps zero k l = let e : 0 + k ≡ k = omega arith in rw e refl
met_drop net b [] (suc i) k l = absurd (omega arith)
met_drop net b (p ∷ ps) (suc i) k l = let e : suc i + k ≡ suc (i + k) = omega arith in rw e (met_drop net b ps i k (omega arith))

take_more : (ps : List PlaceId) (i d : ℕ) → i ≤ length ps → take (i + d) ps ≡ take i ps ++ take d (drop i ps)
take_more ps i d l =
    let long : length (take i ps) ≡ i = length-take-le i ps l in
    ap (λ (z : ℕ). take (z + d) ps) (sym long) ∙ ap (λ (z : List PlaceId). take (length (take i ps) + d) z) (sym (take-append-drop i ps)) ∙ take-append-add (take i ps) (drop i ps) d

-- the piece between two numbers at which one transition is met
round_between : (net : NetLists) (a b m most : ℕ) (ps : List PlaceId) (i d : ℕ) → IsPathBetween net a ps b → 0 < m → 0 < d → i + d ≤ length ps → i + d ≤ most
    → meets net b ps i ≡ meets net b ps (i + d) → tokens_to net ps i % m ≡ tokens_to net ps (i + d) % m → HasRound net a b m most ps
round_between net a b m most ps i d h pos_m some l low same alike =
    let f : PlaceId → ℕ = λ p. (place_at net p).tokens in
    let rest : IsPathBetween net (meets net b ps i) (drop i ps) b = from_met net ps a b i h (omega arith) in
    let long : length (drop i ps) ≡ length ps - i = length-drop i ps in
    let there : meets net b (drop i ps) d ≡ meets net b ps i = met_drop net b ps i d (omega arith) ∙ sym same in
    let sums : tokens_to net ps (i + d) ≡ tokens_to net ps i + tokens_of net (take d (drop i ps)) =
    ap (λ (z : List PlaceId). tokens_of net z) (take_more ps i d (omega arith)) ∙ sum_by-append f (take i ps) (take d (drop i ps)) in
    let multiple : (q : ℕ) × (tokens_of net (take d (drop i ps)) ≡ q * m) = difference (tokens_to net ps i) (tokens_of net (take d (drop i ps))) m pos_m (alike ∙ ap (λ (z : ℕ). z % m) sums) in
    let one = length-take-le i ps (omega arith) in
    let two = length-take-le d (drop i ps) (omega arith) in
    record {
      before = take i ps;
      round = take d (drop i ps);
      after = drop d (drop i ps);
      at = meets net b ps i;
      times = multiple.0;
      is = sym (take-append-drop i ps) ∙ ap (λ (z : List PlaceId). take i ps ++ z) (sym (take-append-drop d (drop i ps)));
      first = to_met net ps a b i h (omega arith);
      closed = subst (λ (z : ℕ). IsPathBetween net (meets net b ps i) (take d (drop i ps)) z) there (to_met net (drop i ps) (meets net b ps i) b d rest (omega arith));
      last = subst (λ (z : ℕ). IsPathBetween net z (drop d (drop i ps)) b) there (from_met net (drop i ps) (meets net b ps i) b d rest (omega arith));
      some = omega arith;
      tokens = multiple.1;
      early = omega arith;
    }

-- a code below N of each of the first N + 1 numbers, from which the transition and the tokens up to multiples of m can be read
record Codes (net : NetLists) (b m most : ℕ) (ps : List PlaceId) (code : ℕ → ℕ) : Type 0 where
  low : (i : ℕ) → i ≤ most → code i < most
  same : (i j : ℕ) → i ≤ most → j ≤ most → code i ≡ code j → (meets net b ps i ≡ meets net b ps j) × (tokens_to net ps i % m ≡ tokens_to net ps j % m)

round_by_codes : (net : NetLists) (a b m most : ℕ) (ps : List PlaceId) (code : ℕ → ℕ) → IsPathBetween net a ps b → 0 < m → most ≤ length ps → Codes net b m most ps code → HasRound net a b m most ps
round_by_codes net a b m most ps code h pos_m l c =
    let two : (i : ℕ) × (j : ℕ) × (i < j) × (j ≤ most) × (code i ≡ code j) = pigeons most code c.low in
    let i : ℕ = two.0 in
    let j : ℕ = two.1 in
    let less : i < j = two.2 in
    let within : j ≤ most = two.3 in
    let both : (meets net b ps i ≡ meets net b ps j) × (tokens_to net ps i % m ≡ tokens_to net ps j % m) = c.same i j (omega arith) within two.4 in
    let e : j ≡ i + (j - i) = omega arith in
    round_between net a b m most ps i (j - i) h pos_m (omega arith) (omega arith) (omega arith)
    (both.0 ∙ ap (meets net b ps) e)
    (both.1 ∙ ap (λ (z : ℕ). tokens_to net ps z % m) e)

-- a * m + r for r below m is read in one way
one_code : (m a r c s : ℕ) → r < m → s < m → a * m + r ≡ c * m + s → (a ≡ c) × (r ≡ s)
one_code m a r c s hr hs q = ⊎_elim
    (λ (t : a < c). let more : (a + 1) * m ≤ c * m = mul-le-mul_right {m = a + 1} {n = c} m (omega arith) in absurd (omega (arith, more)))
    (λ (t : c ≤ a). ⊎_elim
    (λ (u : c < a). let more : (c + 1) * m ≤ a * m = mul-le-mul_right {m = c + 1} {n = a} m (omega arith) in absurd (omega (arith, more)))
    (λ (u : a ≤ c). let is : a ≡ c = omega arith in let same : a * m ≡ c * m = ap (λ (z : ℕ). z * m) is in (is, omega (arith, same)))
    (cases_lt c a))
    (cases_lt a c)

low_code : (n m a r : ℕ) → a < n → r < m → a * m + r < n * m
low_code n m a r la lr = let more : (a + 1) * m ≤ n * m = mul-le-mul_right {m = a + 1} {n = n} m (omega arith) in omega (arith, more)

-- a path of at least n m places, n transitions in all
pub round_in : LongPathsComeRound
round_in net n m ps a b e lb h pos_m l = round_by_codes net a b m (n * m) ps (λ i. meets net b ps i * m + tokens_to net ps i % m) h pos_m l
    (record {
      low = λ i w. low_code n m (meets net b ps i) (tokens_to net ps i % m) (met_below net n ps a b i e lb h (omega arith)) (mod_below (tokens_to net ps i) m pos_m);
      same = λ i j w v q. one_code m (meets net b ps i) (tokens_to net ps i % m) (meets net b ps j) (tokens_to net ps j % m)
          (mod_below (tokens_to net ps i) m pos_m) (mod_below (tokens_to net ps j) m pos_m) q;
    })

-- the numbers but c, counted on
abbrev skip : ℕ → ℕ → ℕ
skip c t = t - cond (ltb c t) 1 0

skip_low : (n c t : ℕ) → c < n → t < n → t ≢ c → skip c t < n - 1
skip_low n c t lc lt ne = ⊎_elim
    (λ (l : c < t). let e : ltb c t ≡ true = grind (arith, nat_tests) in rw e (omega arith))
    (λ (l : t ≤ c). let e : ltb c t ≡ false = grind (arith, nat_tests) in ⊎_elim (λ (s : t < c). rw e (omega arith)) (λ (s : c ≤ t). absurd (ne (omega arith))) (cases_lt t c))
    (cases_lt c t)

skip_one : (c s t : ℕ) → s ≢ c → t ≢ c → skip c s ≡ skip c t → s ≡ t
skip_one c s t ns nt e = by_test (ltb c s) refl (ltb c t) refl where
  over : (x : ℕ) → ltb c x ≡ true → c < x
  over x h = grind (arith, nat_tests)

  under : (x : ℕ) → x ≢ c → ltb c x ≡ false → x < c
  under x ne h = ⊎_elim (λ (l : x < c). l) (λ (l : c ≤ x). absurd (ne (let k : ltb c x ≡ false = h in grind (arith, nat_tests)))) (cases_lt x c)

  by_test : (p : Bool) → ltb c s ≡ p → (q : Bool) → ltb c t ≡ q → s ≡ t
  by_test true hp true hq = let a = over s hp in let b = over t hq in let f : s - 1 ≡ t - 1 =
      (let u : skip c s ≡ s - 1 = rw hp refl in let v : skip c t ≡ t - 1 = rw hq refl in sym u ∙ e ∙ v) in omega arith
  by_test true hp false hq = let a = over s hp in let b = under t nt hq in let f : s - 1 ≡ t - 0 =
      (let u : skip c s ≡ s - 1 = rw hp refl in let v : skip c t ≡ t - 0 = rw hq refl in sym u ∙ e ∙ v) in omega arith
  by_test false hp true hq = let a = under s ns hp in let b = over t hq in let f : s - 0 ≡ t - 1 =
      (let u : skip c s ≡ s - 0 = rw hp refl in let v : skip c t ≡ t - 1 = rw hq refl in sym u ∙ e ∙ v) in omega arith
  by_test false hp false hq = let f : s - 0 ≡ t - 0 = (let u : skip c s ≡ s - 0 = rw hp refl in let v : skip c t ≡ t - 0 = rw hq refl in sym u ∙ e ∙ v) in omega arith

-- a path of more than (n - 1) m places, none of which begins at c
pub round_off : (net : NetLists) (n m c : ℕ) (ps : List PlaceId) (a b : ℕ) → EndsBelow net n → b < n → c < n → IsPathBetween net a ps b → 0 < m → (n - 1) * m < length ps
    → All (λ p. from_of net p ≢ c) ps → HasRound net a b m ((n - 1) * m) ps
round_off net n m c ps a b e lb lc h pos_m l off =
    let never : (i : ℕ) → i ≤ (n - 1) * m → meets net b ps i ≢ c = λ i w z. off i no_id (omega arith) (sym (met_at net b ps i no_id (omega arith)) ∙ z) in
    round_by_codes net a b m ((n - 1) * m) ps (λ i. skip c (meets net b ps i) * m + tokens_to net ps i % m) h pos_m (omega arith)
    (record {
      low = λ i w. low_code (n - 1) m (skip c (meets net b ps i)) (tokens_to net ps i % m)
          (skip_low n c (meets net b ps i) lc (met_below net n ps a b i e lb h (omega arith)) (never i w)) (mod_below (tokens_to net ps i) m pos_m);
      same = λ i j w v q.
          let both : (skip c (meets net b ps i) ≡ skip c (meets net b ps j)) × (tokens_to net ps i % m ≡ tokens_to net ps j % m) =
          one_code m (skip c (meets net b ps i)) (tokens_to net ps i % m) (skip c (meets net b ps j)) (tokens_to net ps j % m)
          (mod_below (tokens_to net ps i) m pos_m) (mod_below (tokens_to net ps j) m pos_m) q in
          (skip_one c (meets net b ps i) (meets net b ps j) (never i w) (never j v) both.0, both.1);
    })

-- each sum is that of the rest plus that of the round
pub round_sum : (f : PlaceId → ℕ) (net : NetLists) (a b m most : ℕ) (ps : List PlaceId) → (h : HasRound net a b m most ps) → sum_by f ps ≡ sum_by f (h.before ++ h.after) + sum_by f h.round
round_sum f net a b m most ps h =
    let one = sum_by-append f h.before (h.round ++ h.after) in
    let two = sum_by-append f h.round h.after in
    let three = sum_by-append f h.before h.after in
    let e : sum_by f ps ≡ sum_by f (h.before ++ (h.round ++ h.after)) = ap (sum_by f) h.is in
    omega arith
