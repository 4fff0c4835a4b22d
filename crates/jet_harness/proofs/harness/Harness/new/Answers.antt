use Rattle.std.proofs.Common.{◌∙◌, ◌++◌, [], List, map, ap, sym}
use Rattle.jet_layout.specs.declared.wire.Port.{Port}
use Rattle.jet_layout.specs.declared.wire.Wire.{Wire}
use Rattle.jet_harness.specs.Channels.{channels, wire_channel, file_channel}
use Rattle.jet_harness.proofs.Growing.{joins_none, adds_more}
use Rattle.jet_harness.proofs.harness.Harness.new.Goals as goal

pub returns : goal.returns
returns c =
    adds_more c.args.capacity (record { txs = c.new.result; rxs = c.new-2.result }) c.add_wires.new.self c.add_files.new.self
    (map wire_channel c.items.result.now) (map file_channel c.items-2.result.now) (channels c.args.layout.now)
    c.in_ok-add_wires.ensures c.in_ok-add_files.ensures
    (ap (λ (l : List Wire). map wire_channel l ++ map file_channel c.args.layout.now.files) (sym c.items.ensures)
    ∙ ap (λ (l : List Port). map wire_channel c.items.result.now ++ map file_channel l) (sym c.items-2.ensures))
    [] [] (joins_none c.args.capacity (record { txs = c.new.result; rxs = c.new-2.result }) c.new.ensures.items c.new-2.ensures.items)
