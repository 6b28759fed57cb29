use Rattle.teg_model.proofs.LiveRanks.{live_is_ranked}
use Rattle.teg_form.proofs.DatesByForm.{least_by_form}
use Rattle.teg_form.proofs.FormIsWhole.{by_form_is_least}
use Rattle.teg_form.proofs.laws.least_dates_are_by_form.Goals as goal

pub returns : goal.returns
returns c = record {
  by_form = λ net ends live form h u x least. let ranked = live_is_ranked net ends live in least_by_form net form u x ranked.0 ranked.1 ranked.2 h least;
  least = λ net ends live form h u x dates. let ranked = live_is_ranked net ends live in by_form_is_least net form h u x ranked.0 ranked.1 ends ranked.2 dates;
}
