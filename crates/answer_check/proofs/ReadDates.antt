-- The word of a date tells it, and no other.
use Rattle.std.proofs.Common.{ℕ, pos, negsuc, suc, length, refl, ◌*◌, ◌^◌, ◌<◌, ◌≤◌, ◌≡◌, List, sym, ap, ◌∙◌, arith, codes}
use Rattle.std.specs.Fmt.{decimal}
use Rattle.std.proofs.lemmas.Int.{ints}
use Rattle.dioid.specs.declared.dates.Date.{Date}
use Rattle.dioid.specs.declared.dates.Date.TheVariants.{Early, At, Never}
use Rattle.teg_net.specs.Circuits.{IsLive}
use Rattle.teg_net.specs.Limits.{greatest_firing_number}
use Rattle.teg_net.specs.Nets.{NetLists, IsNet}
use Rattle.teg_model.specs.DateBounds.{IsDateWithin, greatest_least_date}
use Rattle.teg_model.specs.Datings.{IsLeastDating}
use Rattle.teg_model.proofs.LiveRanks.{live_ranks}
use Rattle.teg_model.proofs.NetBound.{least_keeps_bound}
use Rattle.teg_model.proofs.OfNet.{net_ends}
use Rattle.teg_text.specs.ValueWords.{IsDate, date_word}
use Rattle.teg_text.specs.WordReading.{date_of_word}
use Rattle.teg_text.proofs.Back.{date_back}
use Rattle.answer_check.specs.ListReading.{IsReadDate, IsReadNumber}

pub small_date : (d : Date) → IsDateWithin greatest_least_date d → IsDate d
small_date Early h = tt
small_date (At (pos n)) h = (let most : n ≤ 2 * 10 ^ 30 = omega (arith, ints, h.1) in omega (arith, most))
small_date (At (negsuc n)) h = absurd (omega (arith, ints, h.0))
small_date Never h = tt

-- the least dates are small
pub least_is_small : (net : NetLists) (x : ℕ → ℕ → Date) → IsNet net → IsLive net → IsLeastDating net x → (t k : ℕ) → t < length net.transitions → 1 ≤ k → k ≤ greatest_firing_number
    → IsDateWithin greatest_least_date (x t k)
least_is_small net x ok live least t k l o m =
    let ranks = live_ranks net (net_ends net ok) live in
    least_keeps_bound net x (suc (suc (length net.transitions))) ranks.0 ok (omega (arith, ok.few_transitions)) ranks.1 least t k l o m

-- two dates have two words
words_apart : (d e : Date) → IsDate d → IsDate e → date_word d ≡ date_word e → d ≡ e
words_apart d e one other same = sym (date_back d one) ∙ (ap date_of_word same ∙ date_back e other)

-- the word of a date is read as it
pub known_read : (word : List ℕ) (e : Date) → IsDate e → word ≡ date_word e → IsReadDate word e
known_read word e kept told = λ d small. (λ is. told ∙ ap date_word is, λ is. words_apart e d kept (small_date d small) (sym told ∙ is))

-- a word that is that of a number, or of no small date
pub number_read : (word : List ℕ) (date : Date) → (word ≡ codes "epsilon" → ⊥) → (word ≡ codes "never" → ⊥) → IsReadNumber word date → IsReadDate word date
number_read word date early never h Early small = (λ is. let other = h.number in (cc), λ is. absurd (early is))
number_read word date early never h (At (pos n)) small =
    let most : n ≤ greatest_least_date = omega (arith, ints, small.1) in
    h.read n most
number_read word date early never h (At (negsuc n)) small = absurd (omega (arith, ints, small.0))
number_read word date early never h Never small = (λ is. let other = h.number in (cc), λ is. absurd (never is))

-- a word of no number that is small
pub none_read : (word : List ℕ) → ((n : ℕ) → n ≤ greatest_least_date → word ≡ decimal n → ⊥) → IsReadNumber word (At (negsuc 0))
none_read word none = record {
  number = (negsuc 0, refl);
  read = λ n most. (λ is. (cc), λ is. absurd (none n most is));
}

pub some_read : (word : List ℕ) (number : ℕ) → word ≡ decimal number → number ≤ greatest_least_date → IsReadNumber word (At (pos number))
some_read word number told most = record {
  number = (pos number, refl);
  read = λ n small. known_read word (At (pos number)) (omega (arith, most)) told (At (pos n)) (omega (arith, ints), omega (arith, ints, small));
}
