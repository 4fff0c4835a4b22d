-- A packet that is filled item by item.
use Rattle.std.proofs.Common.{◌≡◌, ◌++◌, Option, Some, Bool, true, false, refl, sym, ap, subst, ◌∙◌, ℕ}
use Rattle.std.specs.Bool.{OnTrue, OnFalse}
use Rattle.jet_items.specs.declared.item.Item.{Item}
use Rattle.jet_pool.specs.Pool.{BufValue, StockValue}
use Rattle.jet_ring.specs.declared.ends.Tx.{Tx}
use Rattle.jet_ring.specs.declared.ends.Rx.{Rx}
use Rattle.jet_spell.specs.Packets.{IsSpelled}
use Rattle.jet_spell.specs.Spelling.{spelling}
use Rattle.jet_link.specs.declared.ack.Ack.{Ack}
use Rattle.jet_link.specs.declared.counts.Counts.{Counts}
use Rattle.jet_link.specs.declared.packet.Packet.{Packet}
use Rattle.jet_link.specs.declared.shape.LinkShape.{LinkShape}
use Rattle.jet_link.specs.Ends.{IsSendEnd}

-- what a call that writes made of a buffer
module _ (b c : BufValue) (x : Item) where
  room_kept : (r : Bool) → OnTrue r (c ≡ record b { bytes = b.bytes ++ spelling x }) → OnFalse r (c ≡ b) → c.room ≡ b.room
  room_kept true w n = ap (λ (v : BufValue). v.room) w
  room_kept false w n = ap (λ (v : BufValue). v.room) n

  pub end_wrote : (l : LinkShape) (counts : Counts) (stock : StockValue) (work : Option BufValue) (packets : Tx Packet) (acks : Rx Ack) (n : ℕ) → IsSendEnd l counts stock work packets acks n → work ≡ Some b
      → (r : Bool) → OnTrue r (c ≡ record b { bytes = b.bytes ++ spelling x }) → OnFalse r (c ≡ b) → (IsSpelled b.bytes → IsSpelled c.bytes) → IsSendEnd l counts stock (Some c) packets acks n
  end_wrote l counts stock work packets acks n e is r w m list =
      let e2 : IsSendEnd l counts stock (Some b) packets acks n = subst (λ (o : Option BufValue). IsSendEnd l counts stock o packets acks n) is e in
      record {
        shape = e2.shape;
        right = e2.right;
        n = e2.n;
        room = e2.room;
        work_room = λ v same. let eq : c ≡ v = cc in sym (ap (λ (u : BufValue). u.room) eq) ∙ (room_kept r w m ∙ e2.work_room b refl);
        spelled = λ v same. let eq : c ≡ v = cc in subst (λ (u : BufValue). IsSpelled u.bytes) eq (list (e2.spelled b refl));
        between = e2.between;
      }
