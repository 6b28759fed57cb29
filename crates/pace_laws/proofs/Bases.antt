-- One potential for each critical part is enough, and none of these can be left out.
use Rattle.std.proofs.Common.{ℕ, ◌+◌, ◌*◌, ◌<◌, ◌≡◌, List, [], ◌++◌, length, length-append, refl, arith}
use Rattle.std.specs.Prelude.{ℤ, pos, ◌+ℤ◌, ◌≤ℤ◌, All, Contains}
use Rattle.std.proofs.lemmas.Int.{ints}
use Rattle.std.proofs.lemmas.List.Elements.{All-append, All-nil}
use Rattle.teg_net.specs.declared.entries.PlaceId.{PlaceId}
use Rattle.teg_net.specs.Nets.{NetLists}
use Rattle.teg_net.specs.Circuits.{IsPathBetween, time_of, tokens_of}
use Rattle.teg_net.specs.Parts.{IsMember, IsPlaceOfPart}
use Rattle.teg_net.specs.ReducedTimes.{reduced_time_of, IsGreatestPathTime}
use Rattle.teg_net.proofs.PathLaws.{IsPathBetween-append}
use Rattle.pace_laws.specs.TightPotentials.{AreTightPotentials}
use Rattle.pace_laws.specs.Eigenspaces.{IsCriticalTransition, AreInOneCriticalPart, AreBegunAt, AreGreatestFrom, NoneCanBeLeftOut, OneOfEachPartSpans}
use Rattle.pace_laws.proofs.Sums.{weight_is, weight-append}
use Rattle.pace_laws.proofs.Existing.{first_member}
use Rattle.pace_laws.proofs.Eigenspace.{begun_are, begun_exist, no_path_above, spanned, nought, inside_back, rises}

-- ---- paths in the part, after one another

record IsWithin (net : NetLists) (part_of : List ℕ) (part s : ℕ) (ps : List PlaceId) (t : ℕ) : Type 0 where
  pub path : IsPathBetween net s ps t
  pub inside : All (IsPlaceOfPart net part_of part) ps

after : (net : NetLists) (part_of : List ℕ) (part s t u : ℕ) (ps qs : List PlaceId) → IsWithin net part_of part s ps t → IsWithin net part_of part t qs u → IsWithin net part_of part s (ps ++ qs) u
after net part_of part s t u ps qs h k = record {
  path = IsPathBetween-append net ps qs s t u h.path k.path;
  inside = All-append (IsPlaceOfPart net part_of part) ps qs h.inside k.inside;
}

-- ---- none can be left out

module _ (net : NetLists) (part_of : List ℕ) (part a b s : ℕ) (starts : List ℕ) (moved v : ℕ → ℤ) (c : IsCriticalTransition net part_of part a b s)
    (h : AreBegunAt net part_of part a b s v) (k : AreGreatestFrom net part_of part a b starts moved v) where
  abbrev time : List PlaceId → ℤ
  time ps = reduced_time_of net a b ps

  abbrev round : List PlaceId
  round = c.0

  around : IsWithin net part_of part s round s
  around = record { path = c.1.closed; inside = c.1.inside }

  -- a critical round has no reduced time
  none_around : time round ≡ pos 0
  none_around =
      let w = weight_is net a b round in
      let e : b * time_of net round ≡ a * tokens_of net round = (let e = c.1.attains in grind (arith, e)) in
      omega (arith, ints, w, e)

  here : IsMember part_of part s
  here = first_member net part_of part round s s c.1.not_empty c.1.closed c.1.inside

  -- no closed way has more
  none_above : (ps : List PlaceId) → IsWithin net part_of part s ps s → time ps ≤ℤ pos 0
  none_above ps w =
      let best = h s here in
      let qs : List PlaceId = best.attained.0 in
      let own : IsWithin net part_of part s qs s = record { path = best.attained.1; inside = best.attained.2 } in
      let twice = after net part_of part s s s qs qs own own in
      let up = best.greatest (qs ++ qs) twice.path twice.inside in
      let sum = weight-append net a b qs qs in
      let e = best.attained.3 in
      let low = best.greatest ps w.path w.inside in
      omega (arith, ints, up, sum, e, low)

  -- where those that begin at u meet them at s, and the way there and back
  module _ (u : ℕ) (of : Contains starts u) (z : ℤ) (g : IsGreatestPathTime net part_of part a b u s z) (e : v s ≡ (z +ℤ moved u)) where
    abbrev back : List PlaceId
    back = g.attained.0

    to : IsWithin net part_of part u back s
    to = record { path = g.attained.1; inside = g.attained.2 }

    there_in : IsMember part_of part u
    there_in =
        let all = after net part_of part u s s back round to around in
        let some = c.1.not_empty in
        let l : 0 < length (back ++ round) = rw (length-append back round) (omega (arith, some)) in
        first_member net part_of part (back ++ round) u s l all.path all.inside

    -- at u no closed way has more than none
    still : IsGreatestPathTime net part_of part a b u u (pos 0)
    still = record {
      attained = ([], refl, All-nil (IsPlaceOfPart net part_of part), refl);
      greatest = λ ps path inside.
          let own : IsWithin net part_of part u ps u = record { path = path; inside = inside } in
          let all = after net part_of part u u s ps back own to in
          let up = g.greatest (ps ++ back) all.path all.inside in
          let sum = weight-append net a b ps back in
          let at = g.attained.3 in
          omega (arith, ints, up, sum, at);
    }

    abbrev there : List PlaceId
    there = (h u there_in).attained.0

    from : IsWithin net part_of part s there u
    from = record { path = (h u there_in).attained.1; inside = (h u there_in).attained.2 }

    way : IsWithin net part_of part s ((round ++ there) ++ back) s
    way = after net part_of part s u s (round ++ there) back (after net part_of part s s u round there around from) to

    -- the way has just the ratio
    way_time : time ((round ++ there) ++ back) ≡ pos 0
    way_time =
        let low = k.none_above u u (pos 0) of still in
        let at = (h u there_in).attained.3 in
        let back_is = g.attained.3 in
        let own = (h s here).greatest [] refl (All-nil (IsPlaceOfPart net part_of part)) in
        let one = weight-append net a b (round ++ there) back in
        let two = weight-append net a b round there in
        let none = none_around in
        let up = none_above ((round ++ there) ++ back) way in
        omega (arith, ints, low, at, back_is, own, one, two, none, up, e)

    linked : AreInOneCriticalPart net part_of part a b s u
    linked =
        let w = weight_is net a b ((round ++ there) ++ back) in
        let t = way_time in
        let same : b * time_of net ((round ++ there) ++ back) ≡ a * tokens_of net ((round ++ there) ++ back) = omega (arith, ints, w, t) in
        let some = c.1.not_empty in
        let long : 0 < length ((round ++ there) ++ back) = rw (length-append (round ++ there) back, length-append round there) (omega (arith, some)) in
        record {
          there = round ++ there;
          back = back;
          to = (after net part_of part s s u round there around from).path;
          from = to.path;
          round = record { not_empty = long; closed = way.path; inside = way.inside; attains = grind (arith, same) };
        }

  pub begun_apart : (u : ℕ) × Contains starts u × AreInOneCriticalPart net part_of part a b s u
  begun_apart = let m = k.met s here in (m.0, m.1, linked m.0 m.1 m.2 m.3 m.4)

pub none_left_out : NoneCanBeLeftOut
none_left_out net part_of part a b s starts moved v c h k = begun_apart net part_of part a b s starts moved v c h k

-- ---- one of each critical part is enough

module _ (net : NetLists) (part_of : List ℕ) (part a b : ℕ) (starts : List ℕ)
    (each : (s : ℕ) → IsCriticalTransition net part_of part a b s → (u : ℕ) × Contains starts u × AreInOneCriticalPart net part_of part a b s u)
    (v : ℕ → ℤ) (h : AreTightPotentials net part_of part a b v) where
  -- those that begin elsewhere in the critical part meet them as well
  met_from : (s t u : ℕ) (z : ℤ) → IsGreatestPathTime net part_of part a b s t z → v t ≡ (z +ℤ v s) → (l : AreInOneCriticalPart net part_of part a b s u)
      → (y : ℤ) × IsGreatestPathTime net part_of part a b u t y × (v t ≡ (y +ℤ v u))
  met_from s t u z g e l =
      let none = nought net part_of part a b s u l in
      let up = rises net part_of part a b s u l v h in
      let ps : List PlaceId = g.attained.0 in
      let own : IsWithin net part_of part u l.back s = record { path = l.from; inside = inside_back net part_of part a b s u l } in
      let on : IsWithin net part_of part s ps t = record { path = g.attained.1; inside = g.attained.2 } in
      let all = after net part_of part u s t l.back ps own on in
      let sum = weight-append net a b l.back ps in
      let at = g.attained.3 in
      let is : (reduced_time_of net a b l.back +ℤ z) ≡ reduced_time_of net a b (l.back ++ ps) = omega (arith, ints, sum, at) in (
        reduced_time_of net a b l.back +ℤ z,
        record {
          attained = (l.back ++ ps, all.path, all.inside, is);
          greatest = λ qs path inside. let low = no_path_above net part_of part a b v h qs u t path inside in omega (arith, ints, low, up, none, e);
        },
        omega (arith, ints, e, up, none),
      )

  greatest_from : AreGreatestFrom net part_of part a b starts v v
  greatest_from = record {
    none_above = λ s t z of g. let e = g.attained.3 in let up = no_path_above net part_of part a b v h g.attained.0 s t g.attained.1 g.attained.2 in omega (arith, ints, e, up);
    met = λ t m.
        let w = (spanned net part_of part a b v h t m).met in
        let o = each w.0 w.1 in
        let f = met_from w.0 t o.0 w.2 w.3 w.4 o.2 in
        (o.0, o.1, f.0, f.1, f.2);
  }

pub one_of_each : OneOfEachPartSpans
one_of_each net part_of part r starts ends strong g = (
  λ all s c.
      let here = first_member net part_of part c.0 s s c.1.not_empty c.1.closed c.1.inside in
      let begun = begun_exist net part_of part s r ends strong g here in
      let tight = begun_are net part_of part r.time r.tokens s begun.0 c begun.1 in
      let spans = all begun.0 tight in
      none_left_out net part_of part r.time r.tokens s starts spans.0 begun.0 c begun.1 spans.1,
  λ each v h. (v, greatest_from net part_of part r.time r.tokens starts each v h),
)
