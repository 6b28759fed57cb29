-- How lists of lines are read back: kinds of rows, blocks of rows, and cells of rows. No text rests on these definitions.
use Rattle.std.specs.Prelude.{ℕ, suc, ◌/◌, ◌%◌, Bool, List, [], ◌∷◌, drop, get_or, if◌then◌else◌}

-- those of the lines that pass
abbrev pub those : {L : Type 0} → (L → Bool) → List L → List L
those test [] = []
those test (line ∷ lines) = if test line then line ∷ those test lines else those test lines

-- the number of the first that passes
abbrev pub first_where : {X : Type 0} → (X → Bool) → List X → ℕ
first_where test [] = 0
first_where test (x ∷ xs) = if test x then 0 else suc (first_where test xs)

-- lines in blocks: a block is its head line and the lines up to the next head; what stands before the first head stays over
pub record LineBlocks (L : Type 0) : Type 0 where
  pub over : List L
  pub blocks : List (List L)

-- a line before blocks: a head begins one, any other line stays over
abbrev pub onto_blocks : {L : Type 0} → (L → Bool) → L → LineBlocks L → LineBlocks L
onto_blocks is_head line b =
    if is_head line then record { over = []; blocks = (line ∷ b.over) ∷ b.blocks }
    else record { over = line ∷ b.over; blocks = b.blocks }

-- the blocks of these lines
abbrev pub blocks_in : {L : Type 0} → (L → Bool) → List L → LineBlocks L
blocks_in is_head [] = record { over = []; blocks = [] }
blocks_in is_head (line ∷ lines) = onto_blocks is_head line (blocks_in is_head lines)

-- the cell of this number, where rows have one width, each behind a word of its own
abbrev pub cell_in : {W : Type 0} → ℕ → ℕ → W → List (List W) → W
cell_in width i d rows = get_or (drop 1 (get_or rows (i / width) [])) (i % width) d
