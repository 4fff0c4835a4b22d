use Rattle.std.proofs.Common.{arith}
use Rattle.jet_items.proofs.KeyTable.{table_is}
use Rattle.jet_items.proofs.key.is_key_byte.Goals as goal

pub returns : goal.returns
returns c = rw c.from.ensures (table_is c.args.b (omega arith))
