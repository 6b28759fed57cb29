-- No text is unknown.
use Rattle.std.proofs.Common.{◌≡◌, ℕ, List, [], None, refl}
use Rattle.teg_reader.specs.UnknownTransitions.{unknown_among}

pub none_unknown : (names : List (List ℕ)) → unknown_among names [] ≡ None
unfolding unknown_among
none_unknown names = refl
