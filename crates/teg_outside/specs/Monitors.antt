-- Texts that a monitor may print.
use Rattle.std.specs.Prelude.{ℕ, ◌==◌, ◌≡◌, false, List, map}
use Rattle.std.specs.List.{list_any}
use Rattle.teg_outside.specs.declared.monitor.Firing.{Firing}

-- no byte of the text is a line feed
abbrev pub IsOneLine : List ℕ → Type 0
IsOneLine text = list_any (λ byte. byte == 10) text ≡ false

-- the lines of all monitors after further firings, by the text of each
abbrev pub lines_by : {A : Type 0} → (A → List Firing → List ℕ) → List A → List Firing → List (List ℕ)
lines_by text monitors firings = map (λ m. text m firings) monitors
