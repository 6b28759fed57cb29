-- A list of entries by rows, as the matrix of a net.
use Rattle.std.proofs.Common.{ℕ, ◌+◌, ◌*◌, ◌/◌, ◌%◌, ◌<◌, ◌≡◌, List, [], ◌∷◌, ◌++◌, length, get_or, sym, ap, subst, arith, below_more}
use Rattle.std.proofs.lemmas.List.{length_push, get_or_append_left, get_or_push}
use Rattle.std.proofs.lemmas.Nat.{mul-add-lt}
use Rattle.dioid_matrix.specs.Tables.{Table, table_of, IsTable}
use Rattle.dioid_matrix.proofs.Places.{at_place}
use Rattle.series_ops.specs.declared.gains.Gain.{Gain}
use Rattle.series_ops.specs.Gains.{gain_zero}
use Rattle.teg_net.specs.Nets.{NetLists}
use Rattle.teg_settle.specs.periodic_laws.Equations.{gains}
use Rattle.net_matrices.specs.NetEntries.{IsMatrixOfNet}
use Rattle.net_matrices.specs.PlacesBetween.{IsEntryOf}

-- the first so many places of the list have their entries
pub record AreEntries (net : NetLists) (width count : ℕ) (xs : List Gain) : Type 0 where
  pub long : length xs ≡ count
  pub each : (q : ℕ) → q < count → IsEntryOf net (q / width) (q % width) (get_or xs q gain_zero)

pub entries_more : (net : NetLists) (width count : ℕ) (xs : List Gain) (g : Gain) → AreEntries net width count xs → IsEntryOf net (count / width) (count % width) g
    → AreEntries net width (count + 1) (xs ++ g ∷ [])
entries_more net width count xs g h is =
    let long = h.long in
    let last : get_or (xs ++ g ∷ []) count gain_zero ≡ g = get_or_push xs g gain_zero count long in
    record {
      long = omega (arith, length_push xs g, long);
      each = below_more (λ q. IsEntryOf net (q / width) (q % width) (get_or (xs ++ g ∷ []) q gain_zero)) count
          (λ q l.
          let before : get_or (xs ++ g ∷ []) q gain_zero ≡ get_or xs q gain_zero = get_or_append_left xs (g ∷ []) gain_zero q (omega (arith, l, long)) in
          subst (λ (z : Gain). IsEntryOf net (q / width) (q % width) z) (sym before) (h.each q l))
          (subst (λ (z : Gain). IsEntryOf net (count / width) (count % width) z) (sym last) is);
    }

pub entries_all : (net : NetLists) (xs : List Gain) (t : Table Gain) → AreEntries net (length net.transitions) (length net.transitions * length net.transitions) xs
    → t ≡ table_of (length net.transitions) (length net.transitions) xs → IsTable gains t → IsMatrixOfNet net t
entries_all net xs t h same is =
    let n : ℕ = length net.transitions in
    let entries : t.entries ≡ xs = ap (λ (z : Table Gain). z.entries) same in
    let columns : t.columns ≡ n = ap (λ (z : Table Gain). z.columns) same in
    record {
      rows = ap (λ (z : Table Gain). z.rows) same;
      columns = columns;
      entries = record {
        elements = λ i j. is.elements (i * t.columns + j);
        values = λ i j k li lj.
            let within : i * n + j < n * n = mul-add-lt i n j n li lj in
            let own : IsEntryOf net i j (get_or xs (i * n + j) gain_zero) = at_place (λ a b. IsEntryOf net a b (get_or xs (i * n + j) gain_zero)) i j n lj (h.each (i * n + j) within) in
            rw (entries, columns) (own.values k);
      };
    }
