use Rattle.std.proofs.Common.{ℕ, Option, None, Some, ◌≡◌, ◌<◌, ◌≤◌, length, ◌∙◌, arith, rules, ⊎_elim}
use Rattle.std.specs.Prelude.{ℤ, pos}
use Rattle.std.proofs.lemmas.List.{get_or_past, get_or-replicate, get_or-set_same, get_or-set_other, length-set, length-replicate}
use Rattle.std.proofs.lemmas.Bool.{cases_lt}
use lib.ListN.{replicate}
use Rattle.teg_howard.specs.FoundCircuits.{value_held}
use Rattle.teg_howard.proofs.following.root_alone.Goals as goal

abbrev no_value : Option ℤ
no_value = None

all_none : (n t : ℕ) → value_held (replicate n None) t ≡ None
all_none n t =
    ⊎_elim
    (λ (l : t < n). get_or-replicate n t None None l)
    (λ (l : n ≤ t). get_or_past (replicate n None) t None (omega (arith, length-replicate n (no_value))))
    (cases_lt t n)

pub returns : goal.returns
returns c =
    let n = c.args.count in
    let root = c.args.root in
    let vs = c.in_ok-values.values.items in
    let filled : vs ≡ replicate n None = c.in_ok-values.ensures.items_if_clones_equal (search rules) in
    let ok = c.in_ok-values.values.ok in
    let long : length vs ≡ n = omega (arith, c.in_ok-values.ensures.len, ok.0) in
    record {
      all = length-set vs root (Some (pos 0)) ∙ long;
      start = get_or-set_same vs root (Some (pos 0)) None (omega (arith, c.requires));
      others = λ t ne. get_or-set_other vs root t (Some (pos 0)) None ne ∙ rw filled (all_none n t);
    }
