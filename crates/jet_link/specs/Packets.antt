-- The bytes of packets.
use Rattle.std.specs.Prelude.{ℕ, List}
use Rattle.std.specs.List.{flat_map}
use Rattle.jet_link.specs.declared.packet.Packet.{Packet}

abbrev pub packet_bytes : Packet → List ℕ
packet_bytes p = p.buf.bytes

-- the bytes of packets, one after another
abbrev pub packed : List Packet → List ℕ
packed packets = flat_map packet_bytes packets
