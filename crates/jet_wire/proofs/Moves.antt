-- There are no more packets than items in them, and no more acknowledgements than packets.
use Rattle.std.proofs.Common.{◌≡◌, ℕ, ◌+◌, ◌*◌, ◌≤◌, List, [], ◌∷◌, ◌++◌, length, sym, ◌∙◌, ap, arith}
use Rattle.std.specs.Coded.{le_prop}
use Rattle.std.specs.List.{AllByRecursion}
use Rattle.std.proofs.lemmas.List.{length-append, length-map}
use Rattle.std.proofs.lemmas.List.Concat.{flat_map-cons}
use Rattle.std.proofs.Math.Logic.{∥∥₁_elim}
use Rattle.jet_items.specs.Fits.{ItemFits}
use Rattle.jet_items.specs.declared.item.Item.{Item}
use Rattle.jet_spell.specs.Packets.{AreSpelled}
use Rattle.jet_spell.specs.Spelling.{spellings}
use Rattle.jet_spell.proofs.Lists.{behind}
use Rattle.jet_link.specs.declared.packet.Packet.{Packet}
use Rattle.jet_link.specs.Ends.{packet_view, ack_view}
use Rattle.jet_link.specs.Meeting.{BothMet}
use Rattle.jet_link.specs.Packets.{packet_bytes, packed}
use Rattle.jet_wire.specs.Passing.{Taken}
use Rattle.jet_wire.specs.Receiver.{ReceiverView}
use Rattle.jet_wire.specs.Sender.{SenderView, SenderKeeps}
use Rattle.jet_wire.proofs.Meeting.{front_fits}

some_items : (xs : List Item) (bytes : List ℕ) → AreSpelled xs bytes → 1 ≤ length bytes → 1 ≤ length xs
some_items [] bytes so some = absurd (omega (arith, some, ap length so.spelled))
some_items (x ∷ xs) bytes so some = omega arith

few : (ps : List Packet) (items : List Item) → AllByRecursion ItemFits items → packed ps ≡ spellings items → length ps ≤ length items
few [] items fits is = omega arith
few (p ∷ ps) items fits is = ∥∥₁_elim p.spelled le_prop (λ s.
    let rest = behind s.0 items (packed ps) s.1.fits fits (ap (λ (b : List ℕ). b ++ packed ps) (sym s.1.spelled) ∙ (sym (flat_map-cons packet_bytes p ps) ∙ is)) in
    let less : length ps ≤ length rest.0 = few ps rest.0 rest.1.spelled.fits rest.1.spelled.spelled in
    let some : 1 ≤ length s.0 = some_items s.0 p.buf.bytes s.1 p.some in
    omega (arith, less, some, length-append s.0 rest.0, ap length rest.1.together))

pub few_packets : (v : SenderView) (came : List Taken) (sent : List Item) → SenderKeeps v came sent → length v.end.packets.sent ≤ length sent
few_packets v came sent k = few v.end.packets.sent sent (front_fits sent k.sends.written k.sends.fits) k.sends.packets

pub moves_little : (s : SenderView) (r : ReceiverView) (came : List Taken) (sent : List Item) → SenderKeeps s came sent → BothMet s.end r.end
    → (length s.end.packets.sent + length r.end.packets.received) + (length r.end.acks.sent + length s.end.acks.received) ≤ 4 * length sent
moves_little s r came sent k m =
    let few = few_packets s came sent k in
    let taken = s.end.acks.received in
    let known = s.end.acks.known in
    let pushed : length r.end.acks.sent ≡ length taken + length known = sym (ap length m.acks) ∙ length-append taken known in
    let may = m.link.may_take in
    omega (arith, few, ap length m.packets, length-append r.end.packets.received r.end.packets.known, pushed, may, length-map taken ack_view, length-map known ack_view, length-map s.end.packets.sent packet_view)
