use Rattle.std.proofs.Common.{◌≡◌, ◌*◌, ◌++◌, ◌∷◌, [], rules}
use Rattle.dioid_spectra.proofs.FilledTables.{made_more, made_all}
use Rattle.dioid_spectra.proofs.made.zero.Goals as goal

pub loop-place-preserved : goal.loop-place-preserved
loop-place-preserved g c =
    let items : c.push.new.self.items ≡ c.loop-place.entries.items ++ (c.in_ok-entry.entry ∷ []) = search rules in
    made_more g.D.Dioid c.args.columns (λ _ _. g.D.Dioid.zero) c.loop-place._place c.loop-place.entries.items c.push.new.self.items c.in_ok-entry.entry c.loop-place.invariant items
    c.in_ok-entry.ensures.value c.in_ok-entry.ensures.element

pub returns : goal.returns
returns g c =
    let whole : c.loop-place._place ≡ c.args.rows * c.args.columns = search rules in
    made_all g.D.Dioid c.args.rows c.args.columns (λ _ _. g.D.Dioid.zero) c.loop-place.entries.items _ (rw whole at c.loop-place.invariant) c.matrix_of.ensures
