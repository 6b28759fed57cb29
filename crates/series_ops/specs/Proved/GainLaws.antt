-- The laws of gains, from those of forms.
use Rattle.std.proofs.Common.{ap}
use Rattle.dioid.specs.DioidAxioms.{IsAtMost, IsClosed, DioidLaws, StarLaws, ResidualLaws}
use Rattle.series_laws.specs.SeriesForms.{Form}
use Rattle.series_laws.proofs.DioidOfForms.{forms_closed, form_laws, form_star_laws, form_residual_laws}
use Rattle.series_ops.specs.Gains.{gain_of, IsCanonicalGain, gain_zero, gain_one, gain_sum, gain_product, gain_star, gain_left, gain_meet}
use Rattle.series_laws.specs.Needs.{form_sum}
use Rattle.series_ops.specs.declared.gains.Gain.{Gain}

pub gains_closed : IsClosed IsCanonicalGain gain_zero gain_one gain_sum gain_product
gains_closed = record {
  zero_is = forms_closed.zero_is;
  one_is = forms_closed.one_is;
  sum_is = λ a b ca cb. forms_closed.sum_is a.series b.series ca cb;
  product_is = λ a b ca cb. forms_closed.product_is a.series b.series ca cb;
}

pub gain_laws : DioidLaws IsCanonicalGain gain_zero gain_one gain_sum gain_product
gain_laws = record {
  sum_assoc = λ a b c ca cb cc'. ap gain_of (form_laws.sum_assoc a.series b.series c.series ca cb cc');
  sum_commutes = λ a b ca cb. ap gain_of (form_laws.sum_commutes a.series b.series ca cb);
  sum_idempotent = λ a ca. ap gain_of (form_laws.sum_idempotent a.series ca);
  product_assoc = λ a b c ca cb cc'. ap gain_of (form_laws.product_assoc a.series b.series c.series ca cb cc');
  left_distributes = λ a b c ca cb cc'. ap gain_of (form_laws.left_distributes a.series b.series c.series ca cb cc');
  right_distributes = λ a b c ca cb cc'. ap gain_of (form_laws.right_distributes a.series b.series c.series ca cb cc');
  zero_neutral = λ a ca. ap gain_of (form_laws.zero_neutral a.series ca);
  zero_absorbs_left = λ a ca. ap gain_of (form_laws.zero_absorbs_left a.series ca);
  zero_absorbs_right = λ a ca. ap gain_of (form_laws.zero_absorbs_right a.series ca);
  one_neutral_left = λ a ca. ap gain_of (form_laws.one_neutral_left a.series ca);
  one_neutral_right = λ a ca. ap gain_of (form_laws.one_neutral_right a.series ca);
}

series : Gain → Form
series g = g.series

down : (a b : Gain) → IsAtMost gain_sum a b → IsAtMost form_sum a.series b.series
down a b h = ap (λ (z : Gain). z.series) h

pub gain_star_laws : StarLaws IsCanonicalGain gain_sum gain_product gain_star
gain_star_laws = record {
  star_is = λ a ca. form_star_laws.star_is a.series ca;
  solves = λ a b ca cb. ap gain_of (form_star_laws.solves a.series b.series ca cb);
  least = λ a b x ca cb cx h. ap gain_of (form_star_laws.least a.series b.series x.series ca cb cx (down (gain_sum (gain_product a x) b) x h));
}

pub gain_residual_laws : ResidualLaws IsCanonicalGain gain_sum gain_product gain_left gain_meet
gain_residual_laws = record {
  left_is = λ a b ca cb. form_residual_laws.left_is a.series b.series ca cb;
  meet_is = λ a b ca cb. form_residual_laws.meet_is a.series b.series ca cb;
  galois = λ a x b ca cx cb. (
    λ h. ap gain_of ((form_residual_laws.galois a.series x.series b.series ca cx cb).0
        (down (gain_product a x) b h)),
    λ h. ap gain_of ((form_residual_laws.galois a.series x.series b.series ca cx cb).1 (down x (gain_left a b) h)),
  );
  meet_greatest = λ x a b cx ca cb. (
    λ h. let both = (form_residual_laws.meet_greatest x.series a.series b.series cx ca cb).0 (down x (gain_meet a b) h) in (ap gain_of both.0, ap gain_of both.1),
    λ h. ap gain_of ((form_residual_laws.meet_greatest x.series a.series b.series cx ca cb).1 (down x a h.0, down x b h.1)),
  );
}
