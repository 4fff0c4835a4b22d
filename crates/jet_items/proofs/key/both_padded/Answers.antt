use Rattle.jet_items.proofs.KeyLemmas.{written_behind}
use Rattle.jet_items.proofs.key.both_padded.Goals as goal

pub returns : goal.returns
returns c =
    written_behind c.args.front.now c.args.back.now c.padded_twice-padded.result c.copy_from_slice.new.self _ c.padded_twice-padded.ensures c.copy_from_slice.ensures.after
