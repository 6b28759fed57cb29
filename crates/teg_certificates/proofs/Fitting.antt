-- The conditions of a certificate as they are checked are those of a certificate.
use Rattle.std.proofs.Common.{ℕ, ◌<◌, ◌≡◌, List, length, get_or, sym, ap, subst, ◌∙◌, arith}
use Rattle.std.specs.Prelude.{Contains}
use Rattle.std.proofs.lemmas.List.{get_or-map, length-map, get_or_default}
use Rattle.teg_net.specs.declared.entries.PlaceId.{PlaceId}
use Rattle.teg_net.specs.declared.answers.Potential.{Potential}
use Rattle.teg_net.specs.declared.answers.CycleAnswer.{CycleAnswer}
use Rattle.teg_net.specs.Nets.{NetLists}
use Rattle.teg_net.specs.Ratios.{Fraction, IsLowestTerms}
use Rattle.teg_net.specs.Parts.{IsMember, ListsMembers}
use Rattle.teg_net.specs.PartAnswers.{transitions_of}
use Rattle.teg_net.specs.Certificates.{IsBestCertificate, IsCertificate}
use Rattle.teg_certificates.specs.Checks.{HasPotentialTold, TellsMembers, FitsBest, FitsLists}
use Rattle.teg_certificates.proofs.Deciding.{none_told}

module _ (vs : List Potential) where
  -- the transition of a potential
  abbrev number : Potential → ℕ
  number v = v.transition.index

  long : length (transitions_of vs) ≡ length vs
  long = length-map vs number

  read : (k d : ℕ) → k < length vs → get_or (transitions_of vs) k d ≡ number (get_or vs k none_told)
  read k d l = get_or-map number vs k none_told d l

  contains_told : (t : ℕ) → HasPotentialTold vs t → Contains (transitions_of vs) t
  contains_told t h = (h.0, omega (arith, long, h.2), get_or-map number vs h.0 h.1 t h.2 ∙ (ap number h.3 ∙ h.4))

  itself : (k : ℕ) → k < length vs → get_or vs k (get_or vs k none_told) ≡ get_or vs k none_told
  itself k l = get_or_default vs k (get_or vs k none_told) none_told l

  told_contained : (t : ℕ) → Contains (transitions_of vs) t → HasPotentialTold vs t
  told_contained t h =
      let l : h.0 < length vs = omega (arith, long, h.1) in
      (h.0, get_or vs h.0 none_told, l, itself h.0 l, sym (read h.0 t l) ∙ h.2)

  pub lists_told : (part_of : List ℕ) (part : ℕ) → TellsMembers part_of part vs → ListsMembers part_of part (transitions_of vs)
  lists_told part_of part h = record {
    ordered = λ i j d m n.
        let l : j < length vs = omega (arith, long) in
        let k : i < length vs = omega arith in
        let e = read i d k in
        let f = read j d l in
        let o = h.ordered i j none_told m l in
        omega arith;
    only = λ k d l.
        let m : k < length vs = omega (arith, long) in
        subst (IsMember part_of part) (sym (read k d m)) (h.only k none_told m);
    all = λ t m. contains_told t (h.all t m);
  }

  pub told_lists : (part_of : List ℕ) (part : ℕ) → ListsMembers part_of part (transitions_of vs) → TellsMembers part_of part vs
  told_lists part_of part h = record {
    ordered = λ i j d m n.
        let o = h.ordered i j 0 m (omega (arith, long)) in
        let k : i < length vs = omega arith in
        let e = get_or-map number vs i d 0 k in
        let f = get_or-map number vs j d 0 n in
        omega arith;
    only = λ k d l. subst (IsMember part_of part) (get_or-map number vs k d 0 l) (h.only k 0 (omega (arith, long)));
    all = λ t m. told_contained t (h.all t m);
  }

module _ (net : NetLists) (part_of : List ℕ) (part : ℕ) (r : Fraction) (c : List PlaceId) (vs : List Potential) where
  pub certifies_fit : IsLowestTerms r → FitsBest net part_of part r c vs → IsBestCertificate net part_of part r c vs
  certifies_fit terms h = record {
    time_in = h.limits.time_in;
    tokens_in = h.limits.tokens_in;
    terms = terms;
    circuit = h.attained.circuit;
    inside = h.attained.inside;
    attains = h.attained.attains;
    token = h.attained.token;
    members = lists_told vs part_of part h.potentials.members;
    within = h.potentials.within;
    potentials = h.potentials.kept;
  }

  pub fits_certificate : IsBestCertificate net part_of part r c vs → FitsBest net part_of part r c vs
  fits_certificate h = record {
    limits = record { time_in = h.time_in; tokens_in = h.tokens_in };
    attained = record { circuit = h.circuit; inside = h.inside; attains = h.attains; token = h.token };
    potentials = record { members = told_lists vs part_of part h.members; within = h.within; kept = h.potentials };
  }

pub certifies_lists : (net : NetLists) (answer : CycleAnswer) → FitsLists net answer.part_of.items answer.parts.items answer.best → IsCertificate net answer
certifies_lists net answer h = record {
  count = h.numbers.long;
  below = h.numbers.below;
  rises = h.numbers.rises;
  parts = h.parts;
  best = h.best;
}

pub fits_lists : (net : NetLists) (answer : CycleAnswer) → IsCertificate net answer → FitsLists net answer.part_of.items answer.parts.items answer.best
fits_lists net answer h = record {
  numbers = record { long = h.count; below = h.below; rises = h.rises };
  parts = h.parts;
  best = h.best;
}
