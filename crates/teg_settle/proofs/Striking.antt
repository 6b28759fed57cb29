-- What the lengths of common prefixes of moves tell of periods.
use Rattle.std.proofs.Common.{ℕ, ◌+◌, ◌-◌, ◌*◌, ◌<◌, ◌≤◌, ◌≡◌, ◌≢◌, List, [], ◌∷◌, ◌++◌, length, replicate, set, true, false, refl, sym, ap, ◌∙◌, arith, ⊎_elim, length-set, get_or-set_other}
use Rattle.std.specs.Prelude.{ℤ, Bool}
use Rattle.std.proofs.lemmas.Bool.{cases_eq, false≢true}
use Rattle.std.proofs.lemmas.List.{length-append, length-replicate, get_or-replicate}
use Rattle.std.proofs.lemmas.Int.{ints}
use Rattle.dioid.specs.declared.dates.Date.{Date}
use Rattle.dioid.specs.declared.dates.Date.TheVariants.{Early, At, Never}
use Rattle.dioid.specs.Dates.{move}
use Rattle.teg_net.specs.Nets.{NetLists}
use Rattle.date_rows.specs.DateTables.{TableDates, date_at}
use Rattle.teg_settle.specs.declared.releases.Releases.{Releases}
use Rattle.teg_settle.specs.ComparedRows.{IsReady, AreRowsOf, IsRefuted, read_step}
use Rattle.teg_settle.specs.Prefixes.{AreCommonPrefixes, IsAgreeing, IsCommonPrefix, HasMoves, moved_by, move_back}
use Rattle.teg_settle.specs.Struck.{AreStruck}
use Rattle.teg_settle.proofs.Copying.{more}
use Rattle.teg_settle.proofs.Tested.{refuted, window_of}

-- dates that move by one step move by as much to each other as before
moved_alike : (s : ℤ) (a b : Date) → moved_by (move s a) (move s b) ≡ moved_by a b
moved_alike s Early Early = refl
moved_alike s Early (At y) = refl
moved_alike s Early Never = refl
moved_alike s (At x) Early = refl
moved_alike s (At x) (At y) = omega (arith, ints)
moved_alike s (At x) Never = refl
moved_alike s Never Early = refl
moved_alike s Never (At y) = refl
moved_alike s Never Never = refl

-- what is known to agree from one on tells of what is within
pub known_agree : (f : ℕ → ℤ) (all from end at length' known : ℕ) → from ≤ at → IsAgreeing f from (end - from) → (at < end → IsCommonPrefix f all (at - from) length')
    → known ≤ end - at → (0 < known → known ≤ length') → IsAgreeing f at known
known_agree f all from end at length' known low window within near far j l =
    let before = within (omega arith) in
    let long = far (omega arith) in
    let there : from + (at - from + j) ≡ at + j = omega arith in
    sym (ap f there) ∙ (window (at - from + j) (omega arith) ∙ before.same j (omega arith))

-- all values agree with themselves
pub first_length : (f : ℕ → ℤ) (all : ℕ) → AreCommonPrefixes f all 1 (all ∷ [])
first_length f all = record {
  full = refl;
  each = λ i l.
      let is : i ≡ 0 = omega arith in
      rw is (record {
        within = omega arith;
        same = λ j m. ap f (omega arith);
        longest = λ m. absurd (omega arith);
      });
}

-- one length more
pub length_more : (f : ℕ → ℤ) (all at length' : ℕ) (lengths : List ℕ) → AreCommonPrefixes f all at lengths → IsCommonPrefix f all at length'
    → AreCommonPrefixes f all (at + 1) (lengths ++ length' ∷ [])
length_more f all at length' lengths h new =
    let full = h.full in
    record {
      full = length-append lengths (length' ∷ []) ∙ ap (λ n. n + 1) h.full;
      each = λ i l. more (IsCommonPrefix f all) 0 lengths length' (λ j m. h.each j (omega arith)) (rw full new) i (omega arith);
    }

-- no period is struck off at first
pub none_struck : (net : NetLists) (r : Releases) (most count n : ℕ) → AreStruck net r most count (replicate n false)
none_struck net r most count n period l on = absurd (false≢true (sym (get_or-replicate n period false false (rw (length-replicate n false) at l)) ∙ on))

-- one more that is refuted
pub struck_more : (net : NetLists) (r : Releases) (most count period : ℕ) (struck : List Bool) → AreStruck net r most count struck → IsRefuted net r most count period
    → AreStruck net r most count (set struck period true)
struck_more net r most count period struck h new p l on =
    ⊎_elim
    (λ (q : p ≡ period). rw q new)
    (λ (q : p ≢ period). h p (omega (arith, l, length-set struck period true)) (sym (get_or-set_other struck period p true false q) ∙ on))
    (cases_eq p period)

module _ (net : NetLists) (r : Releases) (most : ℕ) (h : IsReady net r most) (rows : TableDates) (a : AreRowsOf net r rows) (t : ℕ) (l : t < length net.transitions) where
  -- moves of a transition of the net
  pub moves_of : 2 ≤ rows.count → HasMoves rows t
  moves_of some =
      let wide = a.least.width in
      record {
        column = omega (arith, wide);
        some = omega arith;
        few = a.few;
        small = λ k o m. (window_of net r most h rows a 1 (omega arith) (omega arith)).small t k (omega (arith, wide)) o m;
      }

  -- a period whose moves agree less far than a form of it has them agree is refuted
  pub short_is_refuted : (period length : ℕ) → 1 ≤ period → most + 2 * period ≤ rows.count → IsCommonPrefix (move_back rows t) (rows.count - 1) period length
      → length + 1 < most + period → IsRefuted net r most rows.count period
  short_is_refuted period length one fits prefix short =
      refuted net r most h rows a period (omega arith) (λ tests.
      let s : ℤ = read_step rows period t in
      let wide = a.least.width in
      let late : ℕ = rows.count - (period + length) in
      let early : ℕ = rows.count - (period + length) - 1 in
      let late_on : late + period ≡ rows.count - length = omega arith in
      let early_on : early + period ≡ rows.count - length - 1 = omega arith in
      let moved_late : date_at rows t (rows.count - length) ≡ move s (date_at rows t late) = sym (ap (date_at rows t) late_on) ∙ tests.moved late (omega arith) (omega arith) t (omega (arith, wide)) in
      let moved_early : date_at rows t (rows.count - length - 1) ≡ move s (date_at rows t early) = sym (ap (date_at rows t) early_on) ∙ tests.moved early (omega arith) (omega arith) t (omega (arith, wide)) in
      prefix.longest (omega arith)
      (sym (ap (λ d. moved_by d (date_at rows t (rows.count - length))) moved_early ∙ (ap (moved_by (move s (date_at rows t early))) moved_late ∙ moved_alike s (date_at rows t early) (date_at rows t late)))))
