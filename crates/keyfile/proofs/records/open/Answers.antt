-- Proof that `open` meets its contract.
use Rattle.std.proofs.Common.{inr, ◌∙◌}
use Rattle.keyfile.proofs.ReadLemmas.{opened}
use Rattle.keyfile.proofs.records.open.Goals as goal

pub returns-clause-opened : goal.returns-clause-opened
returns-clause-opened g c =
    let made = c.from_reader.ensures in
    let e = c.has_headers.ensures in
    record {
      config = rw e at made.config ∙ c.new.ensures.config;
      trim = rw e at made.trim ∙ c.new.ensures.trim;
      ready = inr (inr (rw e at made.has_headers, made.headers));
      strict = rw e at made.flexible ∙ c.new.ensures.flexible;
      goes = made.fresh;
      length = made.expected;
      follows = rw (made.source, made.rdr) (opened (g.R.Read.remaining c.args.r) c.from_reader.result.state made.state);
    }
