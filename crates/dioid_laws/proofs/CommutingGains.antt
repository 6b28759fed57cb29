-- Gains commute in products, since the functions of their series do.
use Rattle.std.proofs.Common.{◌≡◌, ap, sym, ◌∙◌}
use Rattle.series_ops.specs.series_laws.SeriesForms.{Form, IsCanonical, value_at}
use Rattle.series_ops.specs.series_laws.ProductNeeds.{form_product}
use Rattle.series_ops.proofs.series_laws_proofs.Canonical.{one_canonical}
use Rattle.series_ops.proofs.series_laws_proofs.Products.{form_product_is, form_product_values, product_commutes}
use Rattle.series_ops.specs.Gains.{gain_of, gain_product, IsCanonicalGain}
use Rattle.series_ops.specs.declared.gains.Gain.{Gain}

form_products_commute : (a b : Form) → IsCanonical a → IsCanonical b → form_product a b ≡ form_product b a
form_products_commute a b ca cb =
    one_canonical (form_product a b) (form_product b a) (form_product_is a b ca.form cb.form) (form_product_is b a cb.form ca.form)
    (λ k. form_product_values a b ca.form cb.form k ∙ product_commutes (value_at a) (value_at b) k ∙ sym (form_product_values b a cb.form ca.form k))

pub gain_products_commute : (a b : Gain) → IsCanonicalGain a → IsCanonicalGain b → gain_product a b ≡ gain_product b a
gain_products_commute a b ca cb = ap gain_of (form_products_commute a.series b.series ca cb)
