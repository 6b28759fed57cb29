-- The loop of `entries_of`.
use Rattle.std.proofs.Common.{ℕ, ◌+◌, ◌-◌, ◌*◌, ◌/◌, ◌%◌, ◌<◌, ◌≤◌, ◌≡◌, ◌≢◌, ◌⊎◌, List, [], ◌∷◌, ◌++◌, length, get_or, set, refl, sym, ap, subst, ◌∙◌, arith, ⊎_elim, inl, inr, mod-lt, mul_comm}
use Rattle.std.specs.Prelude.{All, Any, AllPairs}
use Rattle.std.proofs.lemmas.Bool.{cases_lt, cases_eq}
use Rattle.std.proofs.lemmas.Nat.{div-add-mod', mul-add-lt}
use Rattle.std.proofs.lemmas.List.{get_or_default, length-set, get_or-set_same, get_or-set_other}
use Rattle.std.proofs.lemmas.List.Sums.{sum_by-cons}
use Rattle.std.proofs.lemmas.List.Elements.{All-push, All-set}
use Rattle.std.proofs.lemmas.List.Quantifiers.{Any-push, all_pairs_push, any-set}
use Rattle.teg_net.specs.declared.entries.PlaceId.{PlaceId}
use Rattle.teg_net.specs.Nets.{NetLists, IsNet}
use Rattle.teg_net.specs.Circuits.{no_place, place_at, time_of}
use Rattle.teg_form.specs.declared.entries.Entry.{Entry}
use Rattle.teg_form.specs.declared.order.Marked.{Marked}
use Rattle.teg_form.specs.StandardForms.{IsTimeOfMarkedPath, IsGreatestTime, IsEntryBefore, AreEntries}
use Rattle.teg_form.specs.Times.{IsTimeFrom, IsFirstPlaceOf}
use Rattle.teg_form.specs.KeyOrder.{IsKeyOrder, IsMarkedPlace, marked_at}
use Rattle.teg_form.specs.Adding.{IsOfKind, no_entry, last_entry, IsBehind, IsMerged, IsAdded}
use Rattle.teg_form.proofs.Cells.{earlier_cell, one_cell}
use Rattle.teg_form.proofs.StarEntries.{any_more, end_in}

abbrev pub no_mark : Marked
no_mark = record { key = 0; place = record { index = 0 } }

abbrev pub mark_at : List Marked → ℕ → Marked
mark_at order k = get_or order k no_mark

-- a number that rises in the order of the entries
abbrev pub code : Entry → ℕ
code e = e.to.index * 500000 + (e.from.index * 1001 + e.tokens)

-- the entry covers this time of the paths that begin with the place
pub record Covers (net : NetLists) (id : PlaceId) (to time : ℕ) (e : Entry) : Type 0 where
  pub place : IsFirstPlaceOf net id e
  pub to_is : e.to.index ≡ to
  pub enough : time ≤ e.time

-- the entry has its time from a turn before this one
pub record IsFromTurn (net : NetLists) (order : List Marked) (turn : ℕ) (e : Entry) : Type 0 where
  pub pos : ℕ
  pub in_order : pos < length order
  pub before : e.to.index * length order + pos < turn
  pub place : IsFirstPlaceOf net (mark_at order pos).place e
  pub key : e.from.index * 1001 + e.tokens ≡ (mark_at order pos).key
  pub few_from : e.from.index < 400
  pub few_tokens : e.tokens ≤ 1000
  pub some : 1 ≤ e.tokens
  pub time : IsTimeFrom net (mark_at order pos).place e.to.index e.time

pub record EntriesUpTo (net : NetLists) (order : List Marked) (entries : List Entry) (turn : ℕ) : Type 0 where
  pub known : All (IsFromTurn net order turn) entries
  pub covers : (to pos time : ℕ) → pos < length order → to * length order + pos < turn → IsTimeFrom net (mark_at order pos).place to time → Any (Covers net (mark_at order pos).place to time) entries
  pub sorted : AllPairs (λ e f. code e < code f) entries

-- numbers that rise tell the order
pub before_of : (net : NetLists) (order : List Marked) (turn : ℕ) (e f : Entry) → IsFromTurn net order turn e → IsFromTurn net order turn f → code e < code f → IsEntryBefore e f
before_of net order turn e f h k l = ⊎_elim
    (λ q. inl q)
    (λ (q : f.to.index ≤ e.to.index).
    let same : e.to.index ≡ f.to.index = omega (arith, h.few_from, h.few_tokens, k.few_from, k.few_tokens) in
    ⊎_elim
    (λ s. inr (same, inl s))
    (λ (s : f.from.index ≤ e.from.index).
    let from : e.from.index ≡ f.from.index = omega (arith, same, h.few_tokens, k.few_tokens) in
    let less : e.tokens < f.tokens = omega (arith, same, from) in
    inr (same, inr (from, less)))
    (cases_lt e.from.index f.from.index))
    (cases_lt e.to.index f.to.index)

-- an entry of an earlier turn does not stand after one of this turn
pub not_after : (net : NetLists) (order : List Marked) (turn : ℕ) (e f : Entry) → IsKeyOrder net order → IsFromTurn net order turn e
    → (k : IsFromTurn net order (turn + 1) f) → f.to.index * length order + k.pos ≡ turn → code e ≤ code f
not_after net order turn e f ord h k at = ⊎_elim
    (λ s. omega (arith, s, h.few_from, h.few_tokens, k.few_from, k.few_tokens))
    (λ s. let keys : (mark_at order h.pos).key ≤ (mark_at order k.pos).key = ord.sorted h.pos k.pos no_mark (omega (arith, s.1)) k.in_order in omega (arith, s.0, keys, h.key, k.key))
    (earlier_cell (length order) e.to.index h.pos f.to.index k.pos h.in_order k.in_order (omega (arith, h.before, at)))

-- what stands at the turn of these numbers
at_turn : (n a b turn : ℕ) → b < n → 0 < n → a * n + b < turn + 1 → (a * n + b < turn) ⊎ ((a ≡ turn / n) × (b ≡ turn % n))
at_turn n a b turn hb hn l = ⊎_elim
    (λ q. inl q)
    (λ (q : turn ≤ a * n + b).
    let whole : turn / n * n + turn % n ≡ turn = div-add-mod' turn n in
    let same : a * n + b ≡ turn / n * n + turn % n = omega (arith, whole) in
    inr (one_cell n a b (turn / n) (turn % n) hb (mod-lt turn hn) same))
    (cases_lt (a * n + b) turn)

later_turn : (net : NetLists) (order : List Marked) (turn : ℕ) (e : Entry) → IsFromTurn net order turn e → IsFromTurn net order (turn + 1) e
later_turn net order turn e h = record {
  pos = h.pos;
  in_order = h.in_order;
  before = omega (arith, h.before);
  place = h.place;
  key = h.key;
  few_from = h.few_from;
  few_tokens = h.few_tokens;
  some = h.some;
  time = h.time;
}

-- a turn that gives no entry
pub entries_same : (net : NetLists) (order : List Marked) (entries : List Entry) (turn : ℕ) → 0 < length order → EntriesUpTo net order entries turn
    → ((time : ℕ) → IsTimeFrom net (mark_at order (turn % length order)).place (turn / length order) time → ⊥) → EntriesUpTo net order entries (turn + 1)
entries_same net order entries turn some h none = record {
  known = λ i d l. later_turn net order turn (get_or entries i d) (h.known i d l);
  covers = λ to pos time l m w. ⊎_elim
      (λ q. h.covers to pos time l q w)
      (λ q. absurd (none time (subst (λ x. IsTimeFrom net (mark_at order x).place (turn / length order) time) q.1 (subst (λ y. IsTimeFrom net (mark_at order pos).place y time) q.0 w))))
      (at_turn (length order) to pos turn l some m);
  sorted = h.sorted;
}

-- an entry of this turn, which covers each time of the turn
pub record IsOfTurn (net : NetLists) (order : List Marked) (turn : ℕ) (e : Entry) : Type 0 where
  pub from : IsFromTurn net order (turn + 1) e
  pub at : from.pos ≡ turn % length order
  pub to_is : e.to.index ≡ turn / length order
  pub greatest : (time : ℕ) → IsTimeFrom net (mark_at order (turn % length order)).place (turn / length order) time → time ≤ e.time

turn_is : (net : NetLists) (order : List Marked) (turn : ℕ) (e : Entry) → (k : IsOfTurn net order turn e) → e.to.index * length order + k.from.pos ≡ turn
turn_is net order turn e k = ap (λ x. x * length order + k.from.pos) k.to_is ∙ ap (λ x. turn / length order * length order + x) k.at ∙ div-add-mod' turn (length order)

-- the new entry covers the times of its turn
covers_here : (net : NetLists) (order : List Marked) (turn to pos time : ℕ) (e : Entry) → (k : IsOfTurn net order turn e) → to ≡ turn / length order → pos ≡ turn % length order
    → IsTimeFrom net (mark_at order pos).place to time → Covers net (mark_at order pos).place to time e
covers_here net order turn to pos time e k q p w = record {
  place = subst (λ x. IsFirstPlaceOf net (mark_at order x).place e) (k.at ∙ sym p) k.from.place;
  to_is = k.to_is ∙ sym q;
  enough = k.greatest time (subst (λ x. IsTimeFrom net (mark_at order x).place (turn / length order) time) p (subst (λ y. IsTimeFrom net (mark_at order pos).place y time) q w));
}

kind_of : (e f : Entry) → e.from.index < 400 → e.tokens ≤ 1000 → f.from.index < 400 → f.tokens ≤ 1000 → code e ≡ code f → IsOfKind e f
kind_of e f a b c d q = (omega (arith, a, b, c, d, q), omega (arith, a, b, c, d, q), omega (arith, a, b, c, d, q))

pub entries_behind : (net : NetLists) (order : List Marked) (entries : List Entry) (turn : ℕ) (e : Entry) → IsKeyOrder net order → 0 < length order → EntriesUpTo net order entries turn
    → IsOfTurn net order turn e → (0 < length entries → IsOfKind (last_entry entries) e → ⊥) → EntriesUpTo net order (entries ++ e ∷ []) (turn + 1)
entries_behind net order entries turn e ord some h k other = record {
  known = All-push (IsFromTurn net order (turn + 1)) entries e (λ i d l. later_turn net order turn (get_or entries i d) (h.known i d l)) k.from;
  covers = λ to pos time l m w. ⊎_elim
      (λ q. any_more (Covers net (mark_at order pos).place to time) entries e (h.covers to pos time l q w))
      (λ q. Any-push (Covers net (mark_at order pos).place to time) entries e (covers_here net order turn to pos time e k q.0 q.1 w))
      (at_turn (length order) to pos turn l some m);
  sorted = all_pairs_push (λ x y. code x < code y) entries e h.sorted (λ i d l.
      let n : ℕ = length entries - 1 in
      let ln : n < length entries = omega arith in
      let last = h.known n no_entry ln in
      let below : code (last_entry entries) ≤ code e = not_after net order turn (last_entry entries) e ord last k.from (turn_is net order turn e k) in
      let strict : code (last_entry entries) < code e = ⊎_elim
      (λ s. s)
      (λ (s : code e ≤ code (last_entry entries)).
      let same : code (last_entry entries) ≡ code e = omega (arith, below, s) in
      absurd (other (omega arith) (kind_of (last_entry entries) e last.few_from last.few_tokens k.from.few_from k.from.few_tokens same)))
      (cases_lt (code (last_entry entries)) (code e)) in
      let base : get_or entries i d ≡ get_or entries i no_entry = get_or_default entries i d no_entry l in
      ⊎_elim
      (λ (q : i < n). let step : code (get_or entries i no_entry) < code (last_entry entries) = h.sorted i n no_entry q ln in rw base (omega (arith, step, strict)))
      (λ (q : n ≤ i). let is : i ≡ n = omega (arith, q, l) in rw (base, is) strict)
      (cases_lt i n));
}

-- what covers a time goes on covering it where an entry of its kind and of no less time takes its place
covers_by : (net : NetLists) (id : PlaceId) (to time : ℕ) (e f : Entry) → IsOfKind e f → Covers net id to time e → time ≤ f.time → Covers net id to time f
covers_by net id to time e f k h l = record { place = record { from = sym k.1 ∙ h.place.from; tokens = sym k.2 ∙ h.place.tokens }; to_is = sym k.0 ∙ h.to_is; enough = l }

code_of : (e f : Entry) → IsOfKind e f → code e ≡ code f
code_of e f k = omega (arith, k.0, k.1, k.2)

turned_kind : (e f : Entry) → IsOfKind e f → IsOfKind f e
turned_kind e f k = (sym k.0, sym k.1, sym k.2)

pub entries_kept : (net : NetLists) (order : List Marked) (entries : List Entry) (turn : ℕ) (e : Entry) → 0 < length order → EntriesUpTo net order entries turn
    → IsOfTurn net order turn e → 0 < length entries → IsOfKind (last_entry entries) e → e.time ≤ (last_entry entries).time → EntriesUpTo net order entries (turn + 1)
entries_kept net order entries turn e some h k more kind less = record {
  known = λ i d l. later_turn net order turn (get_or entries i d) (h.known i d l);
  covers = λ to pos time l m w. ⊎_elim
      (λ q. h.covers to pos time l q w)
      (λ q.
      let n : ℕ = length entries - 1 in
      let ln : n < length entries = omega arith in
      let here = covers_here net order turn to pos time e k q.0 q.1 w in
      let enough : time ≤ (last_entry entries).time = omega (arith, here.enough, less) in (
        n,
        last_entry entries,
        ln,
        get_or_default entries n (last_entry entries) no_entry ln,
        covers_by net (mark_at order pos).place to time e (last_entry entries) (turned_kind (last_entry entries) e kind) here enough,
      ))
      (at_turn (length order) to pos turn l some m);
  sorted = h.sorted;
}

pub entries_replaced : (net : NetLists) (order : List Marked) (entries : List Entry) (turn : ℕ) (e : Entry) → 0 < length order → EntriesUpTo net order entries turn
    → IsOfTurn net order turn e → 0 < length entries → IsOfKind (last_entry entries) e → (last_entry entries).time ≤ e.time → EntriesUpTo net order (set entries (length entries - 1) e) (turn + 1)
entries_replaced net order entries turn e some h k more kind less =
    let n : ℕ = length entries - 1 in
    let ln : n < length entries = omega arith in
    let len : length (set entries n e) ≡ length entries = length-set entries n e in
    record {
      known = All-set (IsFromTurn net order (turn + 1)) entries n e k.from (λ i d l. later_turn net order turn (get_or entries i d) (h.known i d l));
      covers = λ to pos time l m w. ⊎_elim
          (λ q.
          let old = h.covers to pos time l q w in
          let P : Entry → Type 0 = Covers net (mark_at order pos).place to time in
          ⊎_elim
          (λ (s : old.0 ≡ n).
          let is : last_entry entries ≡ old.1 = get_or_default entries n no_entry old.1 ln ∙ ap (λ x. get_or entries x old.1) (sym s) ∙ old.3 in
          let was : P (last_entry entries) = subst P (sym is) old.4 in
          any-set P entries n e ln (covers_by net (mark_at order pos).place to time (last_entry entries) e kind was (omega (arith, was.enough, less))))
          (λ (s : old.0 ≢ n). (old.0, old.1, omega (arith, old.2, len), get_or-set_other entries n old.0 e old.1 s ∙ old.3, old.4))
          (cases_eq old.0 n))
          (λ q. any-set (Covers net (mark_at order pos).place to time) entries n e ln (covers_here net order turn to pos time e k q.0 q.1 w))
          (at_turn (length order) to pos turn l some m);
      sorted = λ i j d l m.
          let mj : j < length entries = omega (arith, m, len) in
          let low : get_or (set entries n e) i d ≡ get_or entries i d = get_or-set_other entries n i e d (λ s. absurd (omega (arith, s, l, mj))) in
          ⊎_elim
          (λ (s : j ≡ n).
          let high : get_or (set entries n e) j d ≡ e = ap (λ x. get_or (set entries n e) x d) s ∙ get_or-set_same entries n e d ln in
          let old : code (get_or entries i d) < code (get_or entries n d) = h.sorted i n d (omega (arith, s, l)) ln in
          let same : code (get_or entries n d) ≡ code e = ap code (get_or_default entries n d no_entry ln) ∙ code_of (last_entry entries) e kind in
          rw (low, high) (omega (arith, old, same)))
          (λ (s : j ≢ n).
          let high : get_or (set entries n e) j d ≡ get_or entries j d = get_or-set_other entries n j e d s in
          rw (low, high) (h.sorted i j d l mj))
          (cases_eq j n);
    }

pub entries_added : (net : NetLists) (order : List Marked) (entries new : List Entry) (turn : ℕ) (e : Entry) → IsKeyOrder net order → 0 < length order → EntriesUpTo net order entries turn
    → IsOfTurn net order turn e → IsAdded entries e new → EntriesUpTo net order new (turn + 1)
entries_added net order entries new turn e ord some h k added = ⊎_elim
    (λ (b : IsBehind entries e new). subst (λ x. EntriesUpTo net order x (turn + 1)) (sym b.is) (entries_behind net order entries turn e ord some h k b.other_kind))
    (λ (b : IsMerged entries e new). ⊎_elim
    (λ q. subst (λ x. EntriesUpTo net order x (turn + 1)) (sym q.0) (entries_replaced net order entries turn e some h k b.some b.kind q.1))
    (λ q. subst (λ x. EntriesUpTo net order x (turn + 1)) (sym q.0) (entries_kept net order entries turn e some h k b.some b.kind q.1))
    b.is)
    added

pub of_turn : (net : NetLists) (order : List Marked) (turn : ℕ) (e : Entry) → IsNet net → IsKeyOrder net order → 0 < length order → e.to.index ≡ turn / length order
    → IsFirstPlaceOf net (mark_at order (turn % length order)).place e
    → IsGreatestTime (IsTimeFrom net (mark_at order (turn % length order)).place (turn / length order)) e.time → IsOfTurn net order turn e
of_turn net order turn e ok ord some to place time =
    let pos : ℕ = turn % length order in
    let lp : pos < length order = mod-lt turn some in
    let m : IsMarkedPlace net (mark_at order pos) = ord.known pos no_mark lp in
    let is = ok.each_place (mark_at order pos).place.index no_place m.in_range in
    let row : e.to.index * length order ≡ turn / length order * length order = ap (λ x. x * length order) to in
    record {
      from = record {
        pos = pos;
        in_order = lp;
        before = omega (arith, row, div-add-mod' turn (length order));
        place = place;
        key = omega (arith, place.from, place.tokens, m.key);
        few_from = omega (arith, place.from, is.from_in, ok.few_transitions);
        few_tokens = omega (arith, place.tokens, is.tokens_in);
        some = omega (arith, place.tokens, m.some);
        time = subst (λ y. IsTimeFrom net (mark_at order pos).place y e.time) (sym to) time.reached;
      };
      at = refl;
      to_is = to;
      greatest = time.greatest;
    }

-- an entry of these ends and tokens that takes this time or more
abbrev pub IsAbove : ℕ → ℕ → ℕ → ℕ → Entry → Type 0
IsAbove a b tokens time f = (f.to.index ≡ b) × (f.from.index ≡ a) × (f.tokens ≡ tokens) × (time ≤ f.time)

module _ (net : NetLists) (order : List Marked) (entries : List Entry) (ok : IsNet net) (ord : IsKeyOrder net order) (h : EntriesUpTo net order entries (length net.transitions * length order)) where
  above : (a b tokens time : ℕ) → 1 ≤ tokens → IsTimeOfMarkedPath net a b tokens time → Any (IsAbove a b tokens time) entries
  above a b tokens time some w =
      let id : PlaceId = w.first in
      let n : ℕ = length net.transitions in
      let in_range : id.index < length net.places = w.path.0 in
      let begins : (place_at net id).from.index ≡ a = w.path.1 in
      let marks : 1 ≤ (place_at net id).tokens = omega (arith, some, w.first_tokens) in
      let found = ord.all id.index in_range marks in
      let pos : ℕ = found.0 in
      let read : mark_at order pos ≡ marked_at net id.index = get_or_default order pos no_mark (marked_at net id.index) found.1 ∙ found.2 in
      let place : (mark_at order pos).place ≡ id = ap (λ m. m.place) read in
      let end : b < n = end_in net w.others (place_at net id).to.index b ok (ok.each_place id.index no_place in_range).to_in w.path.2 in
      let sum : time_of net (id ∷ w.others) ≡ (place_at net id).hold + time_of net w.others = sum_by-cons (λ q. (place_at net q).hold) id w.others in
      let from : IsTimeFrom net id b time = record { others = time_of net w.others; path = record { places = w.others; path = w.path.2; no_tokens = w.no_tokens; is = refl }; is = w.is ∙ sum } in
      let within : b * length order + pos < n * length order = rw (mul_comm n (length order)) (mul-add-lt b (length order) pos n end found.1) in
      let c = h.covers b pos time found.1 within (subst (λ q. IsTimeFrom net q b time) (sym place) from) in
      let f : Covers net id b time c.1 = subst (λ q. Covers net q b time c.1) place c.4 in
      (c.0, c.1, c.2, c.3, (f.to_is, f.place.from ∙ begins, f.place.tokens ∙ w.first_tokens, f.enough))

  reached : (e : Entry) → IsFromTurn net order (length net.transitions * length order) e → IsTimeOfMarkedPath net e.from.index e.to.index e.tokens e.time
  reached e t =
      let m : IsMarkedPlace net (mark_at order t.pos) = ord.known t.pos no_mark t.in_order in
      let id : PlaceId = (mark_at order t.pos).place in
      let path = t.time.path in
      record {
        first = id;
        others = path.places;
        path = (m.in_range, sym t.place.from, path.path);
        first_tokens = sym t.place.tokens;
        no_tokens = path.no_tokens;
        is = omega (arith, t.time.is, path.is, sum_by-cons (λ q. (place_at net q).hold) id path.places);
      }

  -- two entries of one kind are one
  one_of_kind : (i j : ℕ) (d : Entry) → i < length entries → j < length entries → code (get_or entries i d) ≡ code (get_or entries j d) → i ≡ j
  one_of_kind i j d li lj q = ⊎_elim
      (λ (s : i < j). absurd (omega (arith, h.sorted i j d s lj, q)))
      (λ (s : j ≤ i). ⊎_elim
      (λ (t : j < i). absurd (omega (arith, h.sorted j i d t li, q)))
      (λ (t : i ≤ j). omega (arith, s, t))
      (cases_lt j i))
      (cases_lt i j)

  pub entries_are : AreEntries net entries
  entries_are = record {
    known = λ i d l.
        let e : Entry = get_or entries i d in
        let t = h.known i d l in
        record {
          marked = t.some;
          time = record {
            reached = reached e t;
            greatest = λ other w.
                let a = above e.from.index e.to.index e.tokens other t.some w in
                let read : get_or entries a.0 d ≡ a.1 = get_or_default entries a.0 d a.1 a.2 ∙ a.3 in
                let is : code (get_or entries a.0 d) ≡ code e = ap code read ∙ code_of a.1 e (a.4.0, a.4.1, a.4.2) in
                let same : a.0 ≡ i = one_of_kind a.0 i d a.2 l is in
                let time : a.1.time ≡ e.time = ap (λ x. x.time) (sym read) ∙ ap (λ k. (get_or entries k d).time) same in
                omega (arith, a.4.3, time);
          };
        };
    all = λ a b tokens time some w. let f = above a b tokens time some w in (f.0, f.1, f.2, f.3, (f.4.0, f.4.1, f.4.2));
    sorted = λ i j d l m. before_of net order (length net.transitions * length order) (get_or entries i d) (get_or entries j d)
        (h.known i d (omega (arith, l, m))) (h.known j d m) (h.sorted i j d l m);
  }
