-- One answer only is right to tell of a net.
use Rattle.std.proofs.Common.{ℕ, Bool, IsTrue, ◌↔◌, true, false, ◌==◌, ◌<◌, ◌≡◌, ◌^◌, List, [], ◌∷◌, length, get_or, refl, sym, ap, ◌∙◌, arith}
use Rattle.std.proofs.lemmas.Bool.{iff_false}
use Rattle.bound_laws.specs.Critical.{EachReachesEach}
use Rattle.teg_net.specs.Circuits.{IsLive}
use Rattle.teg_net.specs.Nets.{NetLists}
use Rattle.teg_text.specs.Lines.{written}
use Rattle.bound_check.specs.declared.bound.ShownBound.{ShownBound}
use Rattle.bound_check.specs.declared.bound.ShownBound.TheVariants.{Number, Without}
use Rattle.bound_check.specs.declared.cause.WhyNone.{WhyNone}
use Rattle.bound_check.specs.declared.cause.WhyNone.TheVariants.{HasInputs, NoPlace, NotStrong, ReadyDates}
use Rattle.bound_check.specs.Formulas.{CanBeBounded, IsBoundNumber, StandsAlone}
use Rattle.bound_check.specs.ShownBounds.{IsFirstCause, IsShownBound, LacksPath, SettlesBy, ShowsNoCause, number_lines, words_of_cause}

-- ---- what excludes each other

no_place_left : (net : NetLists) → length net.places ≡ 0 → StandsAlone net → ⊥
no_place_left net none h = let some = h.some_place in absurd (omega arith)

path_is_there : (net : NetLists) → LacksPath net → EachReachesEach net → ⊥
path_is_there net h each = h.none (each h.from h.to h.from_in h.to_in)

-- a net that can be bounded has no cause
pub no_cause : (net : NetLists) (cause : WhyNone) → CanBeBounded net → IsFirstCause net cause → ⊥
no_cause net HasInputs h cause = h.alone.no_input cause
no_cause net NoPlace h cause = no_place_left net cause.1 h.alone
no_cause net NotStrong h cause = path_is_there net cause.1 h.strong
no_cause net ReadyDates h cause = h.ready cause.2

-- there is one first cause
one_cause : (net : NetLists) (c d : WhyNone) → IsFirstCause net c → IsFirstCause net d → c ≡ d
one_cause net HasInputs HasInputs right other = refl
one_cause net HasInputs NoPlace right other = absurd (other.0 right)
one_cause net HasInputs NotStrong right other = absurd (other.0.no_input right)
one_cause net HasInputs ReadyDates right other = absurd (other.0.no_input right)
one_cause net NoPlace HasInputs right other = absurd (right.0 other)
one_cause net NoPlace NoPlace right other = refl
one_cause net NoPlace NotStrong right other = absurd (no_place_left net right.1 other.0)
one_cause net NoPlace ReadyDates right other = absurd (no_place_left net right.1 other.0)
one_cause net NotStrong HasInputs right other = absurd (right.0.no_input other)
one_cause net NotStrong NoPlace right other = absurd (no_place_left net other.1 right.0)
one_cause net NotStrong NotStrong right other = refl
one_cause net NotStrong ReadyDates right other = absurd (path_is_there net right.1 other.1)
one_cause net ReadyDates HasInputs right other = absurd (right.0.no_input other)
one_cause net ReadyDates NoPlace right other = absurd (no_place_left net other.1 right.0)
one_cause net ReadyDates NotStrong right other = absurd (path_is_there net other.1 right.1)
one_cause net ReadyDates ReadyDates right other = refl

-- ---- what is shown

pub number_is_shown : (net : NetLists) (text : List ℕ) (number after period : ℕ) → IsLive net → IsBoundNumber net number → SettlesBy net after period
    → number < 10 ^ 24 → after < 2 ^ 64 → period < 2 ^ 64 → text ≡ written (number_lines number after period) → IsShownBound net text (Number number after period)
number_is_shown net text number after period live bound form small a p told =
    record { live = live; right = (bound, form); width = (small, a, p); told = told }

-- ---- texts that are not shown

-- where there is a cause, a text that does not tell it is not shown
pub other_text : (net : NetLists) (text : List ℕ) (c : WhyNone) → IsFirstCause net c → (text ≡ written (words_of_cause c ∷ []) → ⊥)
    → (shown : ShownBound) → IsShownBound net text shown → ⊥
other_text net text c right other (Number number after period) h = no_cause net c h.right.0.bounded right
other_text net text c right other (Without cause) h =
    let same : cause ≡ c = one_cause net cause c h.right right in
    other (h.told ∙ ap (λ (x : WhyNone). written (words_of_cause x ∷ [])) same)

-- nor is another cause
pub hidden_cause : (net : NetLists) (text : List ℕ) (c : WhyNone) (told : Bool) → IsFirstCause net c → IsTrue told ↔ (text ≡ written (words_of_cause c ∷ [])) → told ≡ false
    → ShowsNoCause net text
hidden_cause net text c told right same other = λ cause h. other_text net text c right (iff_false same other) (Without cause) h

pub bounded_shows_none : (net : NetLists) (text : List ℕ) → CanBeBounded net → ShowsNoCause net text
bounded_shows_none net text bounded = λ cause h. no_cause net cause bounded h.right

pub dead_shows_none : (net : NetLists) (text : List ℕ) (seen : Bool) → IsTrue seen ↔ IsLive net → seen ≡ false → ShowsNoCause net text
dead_shows_none net text seen same dead = λ cause h. iff_false same dead h.live

-- the line of a bound begins otherwise than that of a cause
lines_differ : (number after period : ℕ) (c : WhyNone) → written (number_lines number after period) ≡ written (words_of_cause c ∷ []) → ⊥
lines_differ number after period HasInputs e = let no : true ≡ false = ap (λ (l : List ℕ). get_or l 0 0 == 98) e in cc
lines_differ number after period NoPlace e = let no : true ≡ false = ap (λ (l : List ℕ). get_or l 0 0 == 98) e in cc
lines_differ number after period NotStrong e = let no : true ≡ false = ap (λ (l : List ℕ). get_or l 0 0 == 98) e in cc
lines_differ number after period ReadyDates e = let no : true ≡ false = ap (λ (l : List ℕ). get_or l 0 0 == 98) e in cc

-- where there is none, a text that tells one is not shown
pub cause_text_not_shown : (net : NetLists) (text : List ℕ) (c : WhyNone) → CanBeBounded net → text ≡ written (words_of_cause c ∷ [])
    → (shown : ShownBound) → IsShownBound net text shown → ⊥
cause_text_not_shown net text c bounded told (Number number after period) h = lines_differ number after period c (sym h.told ∙ told)
cause_text_not_shown net text c bounded told (Without cause) h = no_cause net cause bounded h.right
