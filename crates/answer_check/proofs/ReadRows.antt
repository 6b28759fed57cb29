-- Rows that are read from a list, beside those of the least dating.
use Rattle.std.proofs.Common.{ℕ, ◌<◌, ◌≤◌, ◌≡◌, ◌^◌, List, length, ap, subst, ◌∙◌, arith}
use Rattle.dioid.specs.declared.dates.Date.{Date}
use Rattle.teg_net.specs.Circuits.{IsLive}
use Rattle.teg_net.specs.Nets.{NetLists, IsNet}
use Rattle.teg_model.specs.Datings.{IsLeastDating, listed_releases}
use Rattle.teg_model.specs.LeastDatings.{LeastDatingsExist}
use Rattle.teg_model.proofs.OfNet.{net_ends, only_least}
use Rattle.teg_text.specs.Lines.{written}
use Rattle.teg_text.specs.ValueWords.{date_word}
use Rattle.teg_text.proofs.Words.{date_is_word}
use Rattle.word_lines.specs.WordLines.{IsTextOf}
use Rattle.dating_certificates.specs.CheckedRows.{AreFirstRows, AreRowsOf, date_in_rows}
use Rattle.answer_check.specs.ListReading.{IsOtherRow, IsReadList}
use Rattle.answer_check.specs.ShownLists.{IsListText, IsRefutedList, IsShownIfList, IsShownList, lines_of_words}
use Rattle.answer_check.proofs.ListLines.{list_are_lines, list_is_text, same_words}
use Rattle.answer_check.proofs.ListedRows.{first_of_least, least_date, lines_same}
use Rattle.answer_check.proofs.ReadDates.{least_is_small}

-- the words of the dates of a dating
abbrev pub words_of : (ℕ → ℕ → Date) → ℕ → ℕ → List ℕ
words_of x t k = date_word (x t k)

-- a list that is shown is a text of lines
shown_is_text : (net : NetLists) (text : List ℕ) (count : ℕ) → IsNet net → (shown : IsShownList net text count) → IsTextOf text (lines_of_words net (words_of shown.told.0) count)
shown_is_text net text count ok shown = record {
  are = list_are_lines net count (words_of shown.told.0) ok (λ t k l o m. date_is_word (shown.told.0 t k));
  told = shown.told.2;
}

-- it is a list
pub shown_is_list : (net : NetLists) (text : List ℕ) (count : ℕ) → IsNet net → count < 2 ^ 32 → (shown : IsShownList net text count) → IsListText net text count (words_of shown.told.0)
shown_is_list net text count ok few shown = record {
  few = few;
  are = λ t k l o m. date_is_word (shown.told.0 t k);
  told = shown.told.2;
}

pub read_rows : (net : NetLists) (text : List ℕ) (count : ℕ) (dates : List Date) → IsReadList net text count dates → AreRowsOf net dates count
read_rows net text count dates read = record { whole = read.whole; few = (let few = read.list.few in omega (arith, few)) }

-- a word that is read as a date of the least dating is its word, and no other is
read_least : (net : NetLists) (text : List ℕ) (count : ℕ) (dates : List Date) → IsNet net → IsLive net → (read : IsReadList net text count dates) → (x : ℕ → ℕ → Date) → IsLeastDating net x
    → (t k : ℕ) → t < length net.transitions → 1 ≤ k → k ≤ count
    → (date_in_rows (length net.transitions) dates t k ≡ x t k → read.words t k ≡ date_word (x t k)) × (read.words t k ≡ date_word (x t k) → date_in_rows (length net.transitions) dates t k ≡ x t k)
read_least net text count dates ok live read x least t k l o m =
    let few = read.list.few in
    let here = read.read t k l o m (x t k) (least_is_small net x ok live least t k l o (omega (arith, m, few))) in
    (here.0, here.1)

-- the first row of other dates is the first that is wrong
pub first_wrong : (net : NetLists) (text : List ℕ) (count row : ℕ) (dates : List Date) → IsNet net → IsLive net → LeastDatingsExist → (read : IsReadList net text count dates)
    → IsOtherRow net (date_in_rows (length net.transitions) dates) count row → IsRefutedList net text row
first_wrong net text count row dates ok live exist read h =
    let some = h.some in
    let within = h.within in
    record {
      live = live;
      list = (
        count,
        read.words,
        read.list,
        record {
          some = some;
          within = within;
          before = λ k o m x least t l. (read_least net text count dates ok live read x least t k l o (omega (arith, m, within))).0 (h.before x least t k l o m);
          wrong = λ right.
              let least = exist net (net_ends net ok) live (listed_releases net) in
              h.other least.0 least.1 (λ t l. (read_least net text count dates ok live read least.0 least.1 t row l some within).1 (right least.0 least.1 t l));
        },
      );
    }

-- what is refuted is not shown
pub refuted_not_shown : (net : NetLists) (text : List ℕ) (row : ℕ) → IsNet net → IsRefutedList net text row → (count : ℕ) → IsShownList net text count → ⊥
refuted_not_shown net text row ok h count shown =
    let n = h.list.0 in
    let words = h.list.1 in
    let wrong = h.list.3 in
    let some = wrong.some in
    let within = wrong.within in
    let same = same_words net text n count words (words_of shown.told.0) (list_is_text net text n words ok h.list.2) (shown_is_text net text count ok shown) in
    wrong.wrong (λ x least t l. same.1 t row l some within ∙ ap date_word (only_least net (listed_releases net) shown.told.0 x shown.told.1 least t row l some))

-- where the dates that are read are not those of the least dating, nothing is shown
pub others_not_shown : (net : NetLists) (text : List ℕ) (count : ℕ) (dates : List Date) → IsNet net → IsReadList net text count dates → (AreFirstRows net dates → ⊥) → (n : ℕ) → IsShownList net text n → ⊥
others_not_shown net text count dates ok read other n shown =
    let x = shown.told.0 in
    let same = same_words net text count n read.words (words_of x) (list_is_text net text count read.words ok read.list) (shown_is_text net text n ok shown) in
    let rows = read_rows net text count dates read in
    other (first_of_least net dates count ok rows.few read.whole x shown.told.1
    (λ t k l o m. (read_least net text count dates ok shown.live read x shown.told.1 t k l o m).1 (same.1 t k l o m)))

-- where they are, the text is shown
pub least_shown : (net : NetLists) (text : List ℕ) (count : ℕ) (dates : List Date) → IsNet net → IsLive net → LeastDatingsExist → IsReadList net text count dates → AreFirstRows net dates → IsShownList net text count
least_shown net text count dates ok live exist read first =
    let least = exist net (net_ends net ok) live (listed_releases net) in
    let x = least.0 in
    record {
      live = live;
      told = (
        x,
        least.1,
        read.list.told ∙ ap written (lines_same net read.words (words_of x) count
            (λ t k l o m. (read_least net text count dates ok live read x least.1 t k l o m).0 (least_date net dates count ok first read.whole x least.1 t k l o m))),
      );
    }

-- so is each list that the text is
pub shown_if_list : (net : NetLists) (text : List ℕ) (count : ℕ) (dates : List Date) → IsNet net → LeastDatingsExist → IsReadList net text count dates → AreFirstRows net dates → IsShownIfList net text
shown_if_list net text count dates ok exist read first live n words list =
    let same = same_words net text count n read.words words (list_is_text net text count read.words ok read.list) (list_is_text net text n words ok list) in
    subst (IsShownList net text) same.0 (least_shown net text count dates ok live exist read first)
