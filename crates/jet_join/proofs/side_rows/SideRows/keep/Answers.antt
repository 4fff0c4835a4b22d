use Rattle.std.proofs.Common.{rules}
use Rattle.jet_join.proofs.Keeping.{on_err, kept_row, kept_same}
use Rattle.jet_join.proofs.side_rows.SideRows.keep.Goals as goal

pub returns-in_err-push-clause-unchanged : goal.returns-in_err-push-clause-unchanged
returns-in_err-push-clause-unchanged c = on_err c.from_residual-in_err-push.result (λ q.
    kept_same (λ rows. rows.items) c.row.inside.key q c.new.result c.or_insert-rows.result.now c.push.new.self c.args.self.now.by_key.entries _ _ (search rules)
    ((c.in_ok-self.ensures.update.0 c.push.new.self).0 q) (search rules) c.new.ensures.items (search rules))

pub returns-clause-kept : goal.returns-clause-kept
returns-clause-kept c = λ q.
    kept_row (λ rows. rows.items) c.args.row.now c.row.inside.key q c.new.result c.or_insert-rows.result.now c.push.new.self c.args.self.now.by_key.entries _ _ (search rules) (search rules)
    ((c.in_ok-self.ensures.update.0 c.push.new.self).0 q) (search rules) c.new.ensures.items (search rules)
