use Rattle.std.proofs.Common.{rules}
use Rattle.jet_worker.proofs.TallyLemmas.{counted_more}
use Rattle.jet_feed.proofs.rows.Rows.count.Goals as goal

pub returns-in-Ok-clause-counts : goal.returns-in-Ok-clause-counts
returns-in-Ok-clause-counts c = record {
  room = search rules;
  counts = λ key. counted_more c.args.row.now.key key c.rows_of-before.result c.args.self.now.counts.entries c.insert.new.self.entries (search rules) (search rules);
}
