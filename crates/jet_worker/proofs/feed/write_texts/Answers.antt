use Rattle.jet_worker.proofs.FeedLemmas.{goes_appends, goes_notes_stop, goes_rows_stop}
use Rattle.jet_worker.proofs.feed.write_texts.Goals as goal

pub returns-in-Ok-write_text-clause-told : goal.returns-in-Ok-write_text-clause-told
returns-in-Ok-write_text-clause-told g c =
    goes_appends c.args.rows.now c.args.notes.now (g.O.Outside.told c.args.out.now) (g.O.Outside.told c.write_text.new.out) (g.O.Outside.told c.write_text-in-Ok.new.out)
    c.in-Ok.ensures.told c.in-Ok-write_text.ensures.told

pub returns-in-Err-write_text-clause-told : goal.returns-in-Err-write_text-clause-told
returns-in-Err-write_text-clause-told g c =
    goes_rows_stop c.args.rows.now c.args.notes.now c.in-Err-write_text.stop (g.O.Outside.told c.args.out.now) (g.O.Outside.told c.write_text.new.out) (g.O.Outside.told c.write_text-in-Ok.new.out)
    c.in-Ok.ensures.told c.in-Err-write_text.ensures.told

pub returns-in-Err-clause-told : goal.returns-in-Err-clause-told
returns-in-Err-clause-told g c =
    goes_notes_stop c.args.rows.now c.args.notes.now c.in-Err.stop (g.O.Outside.told c.args.out.now) (g.O.Outside.told c.write_text.new.out) c.in-Err.ensures.told
