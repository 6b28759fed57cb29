use Rattle.std.proofs.Common.{◌≡◌, ◌*◌, ◌++◌, ◌∷◌, [], length, rules}
use Rattle.std.specs.Prelude.{slice_index}
use Rattle.dioid_spectra.specs.MadeMatrices.{unit_at}
use Rattle.dioid_spectra.proofs.FilledTables.{made_more, made_all}
use Rattle.dioid_spectra.proofs.made.choice.Goals as goal

pub loop-place-preserved : goal.loop-place-preserved
loop-place-preserved g c =
    let items : c.push.new.self.items ≡ c.loop-place.entries.items ++ (c.in_ok-entry.entry ∷ []) = search rules in
    made_more g.D.Dioid (length c.args.chosen.now) (λ i j. unit_at g.D.Dioid i (slice_index c.args.chosen.now j)) c.loop-place.place c.loop-place.entries.items c.push.new.self.items
    c.in_ok-entry.entry c.loop-place.invariant items c.in_ok-entry.ensures.value c.in_ok-entry.ensures.element

pub returns : goal.returns
returns g c =
    let whole : c.loop-place.place ≡ c.args.size * length c.args.chosen.now = search rules in
    made_all g.D.Dioid c.args.size (length c.args.chosen.now) (λ i j. unit_at g.D.Dioid i (slice_index c.args.chosen.now j)) c.loop-place.entries.items _
    (rw whole at c.loop-place.invariant) c.matrix_of.ensures
