-- The rings of a layout by what gives their items and what takes them: those of its wires, and then those of its files.
use Rattle.std.specs.Prelude.{◌==◌, Bool, true, false, ◌&&◌, List, ◌++◌, map}
use Rattle.jet_layout.specs.declared.layout.Layout.{Layout}
use Rattle.jet_layout.specs.declared.wire.Port.{Port}
use Rattle.jet_layout.specs.declared.wire.Taker.{Taker}
use Rattle.jet_layout.specs.declared.wire.Taker.TheVariants.{Input, Sink}
use Rattle.jet_layout.specs.declared.wire.Wire.{Wire}
use Rattle.jet_harness.specs.declared.channel.Channel.{Channel}
use Rattle.jet_harness.specs.declared.channel.Giver.{Giver}
use Rattle.jet_harness.specs.declared.channel.Giver.TheVariants.{Output, File}

-- the ring of a wire, and that of a file whose items this input takes
abbrev pub wire_channel : Wire → Channel
wire_channel w = record { giver = Output w.giver; taker = w.taker }

abbrev pub file_channel : Port → Channel
file_channel p = record { giver = File; taker = Input p }

-- the rings of a layout
abbrev pub channels : Layout → List Channel
channels l = map wire_channel l.wires ++ map file_channel l.files

-- tests whether two are the same
abbrev pub same_port : Port → Port → Bool
same_port p q = p.task == q.task && p.number == q.number

abbrev pub same_giver : Giver → Giver → Bool
same_giver (Output p) (Output q) = same_port p q
same_giver (Output p) File = false
same_giver File (Output q) = false
same_giver File File = true

abbrev pub same_taker : Taker → Taker → Bool
same_taker (Input p) (Input q) = same_port p q
same_taker (Input p) Sink = false
same_taker Sink (Input q) = false
same_taker Sink Sink = true
