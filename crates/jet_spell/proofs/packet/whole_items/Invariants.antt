use Rattle.std.proofs.Common.{◌-◌, ◌≤◌, length, take}
use Rattle.jet_spell.specs.Packets.{AreSpelled}
use Rattle.jet_spell.proofs.packet.whole_items.Given as goal

abbrev pub invariant-loop-item : goal.invariant-loop-item
invariant-loop-item l = (l.at ≤ length l.bytes) × AreSpelled l.items.items (take l.at l.bytes)

abbrev pub decreases-loop-item : goal.decreases-loop-item
decreases-loop-item l = length l.bytes - l.at
