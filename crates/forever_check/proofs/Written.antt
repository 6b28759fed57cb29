-- What is said of an answer, by what is known of it.
use Rattle.std.proofs.Common.{Result, Ok, Err}
use Rattle.std.specs.Prelude.{OnOk, IfOk}

pub told_on : {X E : Type 0} (r : Result X E) (P Q : Type 0) → OnOk r P → (P → Q) → IfOk r (λ _. Q)
told_on (Ok x) P Q h f = f h
told_on (Err e) P Q h f = h
