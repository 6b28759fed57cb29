-- Reads and bytes that are appended, and appended again.
use Rattle.std.proofs.Common.{ℕ, List, [], ◌++◌, Option, Some, None, refl, sym, ap, subst, ◌∙◌, append_assoc}
use Rattle.std.proofs.lemmas.List.{append-nil}
use Rattle.teg_outside.specs.Shelves.{ReadsGrow}
use Rattle.teg_outside.specs.Sinks.{BytesGrow}

-- without a read nothing is appended
pub reads_grow_none : (reads : Option (List (List ℕ × ℕ))) → ReadsGrow reads reads []
reads_grow_none None = refl
reads_grow_none (Some reads) = ap (λ (l : List (List ℕ × ℕ)). Some l) (sym (append-nil reads))

-- reads that grew, and grew again
pub reads_grow_then : (a b c : Option (List (List ℕ × ℕ))) (first rest : List (List ℕ × ℕ)) →
    ReadsGrow a b first → ReadsGrow b c rest → ReadsGrow a c (first ++ rest)
reads_grow_then None b c first rest grew grows = subst (λ (o : Option (List (List ℕ × ℕ))). ReadsGrow o c rest) grew grows
reads_grow_then (Some reads) b c first rest grew grows =
    let told = subst (λ (o : Option (List (List ℕ × ℕ))). ReadsGrow o c rest) grew grows in
    told ∙ ap (λ (l : List (List ℕ × ℕ)). Some l) (append_assoc reads first rest)

-- without a write nothing is appended
pub bytes_grow_none : (bytes : Option (List ℕ)) → BytesGrow bytes bytes []
bytes_grow_none None = refl
bytes_grow_none (Some bytes) = ap (λ (l : List ℕ). Some l) (sym (append-nil bytes))

-- bytes that grew, and grew again
pub bytes_grow_then : (a b c : Option (List ℕ)) (first rest : List ℕ) →
    BytesGrow a b first → BytesGrow b c rest → BytesGrow a c (first ++ rest)
bytes_grow_then None b c first rest grew grows = subst (λ (o : Option (List ℕ)). BytesGrow o c rest) grew grows
bytes_grow_then (Some bytes) b c first rest grew grows =
    let told = subst (λ (o : Option (List ℕ)). BytesGrow o c rest) grew grows in
    told ∙ ap (λ (l : List ℕ). Some l) (append_assoc bytes first rest)
