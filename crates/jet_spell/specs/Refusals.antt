-- When bytes are refused as a packet.
use Rattle.std.specs.Prelude.{ℕ, List}
use Rattle.jet_items.specs.declared.no_memory.Refused.{Refused}
use Rattle.jet_items.specs.declared.no_memory.Refused.TheVariants as refused
use Rattle.jet_spell.specs.declared.packet.PacketFault.{PacketFault}
use Rattle.jet_spell.specs.declared.packet.PacketFault.TheVariants.{Malformed}
use Rattle.jet_spell.specs.Packets.{IsMalformed}

-- the fault is the bytes'; want of memory is free
abbrev pub HasCause : List ℕ → Refused PacketFault → Type 0
HasCause bytes (refused.Fault (Malformed at)) = IsMalformed at bytes
HasCause bytes refused.NoMemory = Unit {0}
