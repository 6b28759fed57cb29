use Rattle.std.proofs.Common.{Option, Some, None}
use Rattle.std.specs.Prelude.{IfSome}
use Rattle.teg_due.proofs.NamedOnce.{IsThere, found_there, named_number}
use Rattle.teg_due.proofs.names.transition_named.Goals as goal

some_as : {X : Type 0} (P Q : X → Type 0) (o : Option X) → ((x : X) → P x → Q x) → IfSome o P → IfSome o Q
some_as P Q None f h = h
some_as P Q (Some x) f h = f x h

there : (c : goal.After-find) → IfSome c.find.result (λ id. IsThere c.args.net.now.transitions c.args.name.now id.index)
there c = some_as _ _ c.find.result (λ id h. found_there c.args.net.now.transitions c.args.name.now id.index h) (rw c.requires at c.find.ensures.found)

pub returns-clause-named : goal.returns-clause-named
returns-clause-named c = named_number c.args.net.now c.args.name.now c.find.result c.rules.ensures.distinct_transitions (there c) (rw c.requires at c.find.ensures.none).0

pub returns-clause-in_range : goal.returns-clause-in_range
returns-clause-in_range c = some_as _ _ c.find.result (λ id h. h.within) (there c)
