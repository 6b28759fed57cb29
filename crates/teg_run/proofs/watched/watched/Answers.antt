use Rattle.std.proofs.Common.{◌≡◌, ◌++◌, ◌∙◌, ℕ, List, [], ◌∷◌, ap, map, refl, subst}
use denote.Param.Object.{read_made}
use Rattle.std.specs.Prelude.{string_bytes}
use Rattle.teg_outside.specs.declared.monitor.Firing.{Firing}
use Rattle.teg_run.specs.Calls.{call_of}
use Rattle.teg_run.specs.WholeCalls.{Runs}
use Rattle.teg_run.proofs.watched.watched.Goals as goal
use Rattle.teg_run.proofs.watched.watched.OwnLists as own

-- functions that agree everywhere are one
same_lines : (P : (List Firing → List (List ℕ)) → Type 0) {a b : List Firing → List (List ℕ)} → ((f : List Firing) → a f ≡ b f) → P a → P b
same_lines P same h = subst P (λ i f. same f i) h

-- a list to which three were added one by one
three_added : {A : Type 0} (none one two three : List A) (a b c : A) → none ≡ [] → one ≡ none ++ a ∷ [] → two ≡ one ++ b ∷ [] → three ≡ two ++ c ∷ [] → three ≡ a ∷ b ∷ c ∷ []
three_added none one two three a b c n p q r =
    r ∙ ap (λ l. l ++ c ∷ []) (q ∙ ap (λ l. l ++ b ∷ []) (p ∙ ap (λ l. l ++ a ∷ []) n))

-- what is told of each of three
three_told : {A B : Type 0} (t : A → B) {items : List A} {a b c : A} {x y z : B} → items ≡ a ∷ b ∷ c ∷ [] → t a ≡ x → t b ≡ y → t c ≡ z → map t items ≡ x ∷ y ∷ z ∷ []
three_told t e p q r = ap (map t) e ∙ (λ i. p i ∷ q i ∷ r i ∷ [])

pub returns-clause-runs : goal.returns-clause-runs
returns-clause-runs g c =
    same_lines
    (λ lines. Runs (call_of (map string_bytes c.args.words.now) lines (g.S.Shelf.state c.args.shelf.now) (g.S.Shelf.state c.workbench.new.shelf)
    (g.W.Sink.state c.args.out.now) (g.W.Sink.state c.workbench.new.out) c.workbench.result))
    (λ f. three_told _
    (three_added _ _ _ _ _ _ _ c.new-monitors.ensures.items c.in_ok-keep.ensures c.in_ok-keep-2.ensures c.in_ok-keep-3.ensures)
    (read_made own.own-1 _ own.at-1-1 refl (List ℕ) (λ j m. j.1.line_text m f) c.into_dyn_box.result.vtable c.into_dyn_box.result.value c.in_ok-new.field-0.value c.into_dyn_box.ensures.1
    ∙ ap (λ m. (own.own-1.entry own.at-1-1).1.line_text m f) c.in_ok-new.ensures.ok ∙ c.new.ensures f)
    (read_made own.own-1 _ own.at-1-2 refl (List ℕ)
    (λ j m. j.1.line_text m f) c.into_dyn_box-in_ok-new-2.result.vtable c.into_dyn_box-in_ok-new-2.result.value
    c.in_ok-new-2.field-0.value c.into_dyn_box-in_ok-new-2.ensures.1
    ∙ ap (λ m. (own.own-1.entry own.at-1-2).1.line_text m f) c.in_ok-new-2.ensures.ok ∙ c.new-3.ensures f)
    (read_made own.own-1 _ own.at-1-3 refl (List ℕ)
    (λ j m. j.1.line_text m f) c.into_dyn_box-in_ok-new-3.result.vtable c.into_dyn_box-in_ok-new-3.result.value
    c.in_ok-new-3.field-0.value c.into_dyn_box-in_ok-new-3.ensures.1
    ∙ ap (λ m. (own.own-1.entry own.at-1-3).1.line_text m f) c.in_ok-new-3.ensures.ok ∙ c.new-5.ensures f)) c.workbench.ensures
