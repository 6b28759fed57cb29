use Rattle.std.proofs.Common.{◌∙◌, ◌+◌, length, refl, ap, inr, arith}
use Rattle.csv.specs.Machine.{ends_at_end}
use Rattle.csv.specs.Reading.{strip_bom}
use Rattle.csv.specs.declared.parser.State.TheVariants as st
use Rattle.csv_records.proofs.Unread.{few_records, strip_shorter}
use Rattle.csv_records.proofs.records.Records.new.Goals as goal

pub invariant_of-result : goal.invariant_of-result
invariant_of-result c = λ still.
    let fr = c.from_reader-reader.ensures in
    let e1 = c.has_headers.ensures in
    let e2 = c.flexible.ensures in
    record {
      going = fr.fresh;
      plain = rw (e2, e1) at fr.trim ∙ c.new.ensures.trim;
      ready = inr (inr (rw (e2, e1) at fr.has_headers, fr.headers));
      any_length = rw (e2) at fr.flexible;
      config = rw (e2, e1) at fr.config ∙ c.new.ensures.config;
      between = ap ends_at_end fr.state;
      told = (strip_bom c.args.text.now, fr.source);
    }

pub returns-clause-records : goal.returns-clause-records
returns-clause-records c = rw (c.from_reader-reader.ensures.state, c.from_reader-reader.ensures.source) refl

pub returns-clause-few : goal.returns-clause-few
returns-clause-few c =
    let shorter = strip_shorter c.args.text.now in
    let few = few_records (length (strip_bom c.args.text.now) + 1) st.StartRecord (strip_bom c.args.text.now) refl in
    omega (arith, shorter, few)
