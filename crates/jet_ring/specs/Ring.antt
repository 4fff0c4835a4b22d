-- What a contract sees of the two ends of a ring.
use Rattle.std.specs.Prelude.{◌≡◌, ℕ, ◌+◌, ◌++◌, List, length}
use denote.RawPtr.{Ptr}
use Rattle.std.specs.declared.alloc.Global.{Global}
use Rattle.rtrb.specs.Shared.{Names}
use Rattle.rtrb.specs.Ring as end
use Rattle.jet_ring.specs.declared.ends.Tx.{Tx}
use Rattle.jet_ring.specs.declared.ends.Rx.{Rx}

-- which ring an end belongs to: its memory, its ghost names and its number of slots
pub record Ring : Type 0 where
  pub words : Ptr
  pub slots : Ptr
  pub names : Names
  pub heap : Global
  pub cap : ℕ

module _ {T : Type 0} where
  -- every item sent so far, oldest first
  abbrev pub sent : Tx T → List T
  sent tx = end.sent tx.producer

  -- how many items the sender may send before the next meeting
  abbrev pub known_free : Tx T → ℕ
  known_free tx = tx.free

  -- how many items it will have sent in all once it has used these up
  abbrev pub reach : Tx T → ℕ
  reach tx = length (sent tx) + known_free tx

  -- every item received so far, oldest first
  abbrev pub received : Rx T → List T
  received rx = end.received rx.consumer

  -- the items that the receiver has seen and not yet taken, oldest first
  abbrev pub known_items : Rx T → List T
  known_items rx = end.known_items rx.consumer

  -- every item that the receiver has seen, taken or not
  abbrev pub seen : Rx T → List T
  seen rx = received rx ++ known_items rx

  -- the number of slots
  abbrev pub tx_cap : Tx T → ℕ
  tx_cap tx = end.producer_capacity tx.producer

  abbrev pub rx_cap : Rx T → ℕ
  rx_cap rx = end.consumer_capacity rx.consumer

  -- the ring of an end
  abbrev pub tx_ring : Tx T → Ring
  tx_ring tx =
      record {
        words = tx.producer.end.words;
        slots = tx.producer.end.slots;
        names = tx.producer.end.names;
        heap = tx.producer.end.heap;
        cap = tx_cap tx;
      }

  abbrev pub rx_ring : Rx T → Ring
  rx_ring rx =
      record {
        words = rx.consumer.end.words;
        slots = rx.consumer.end.slots;
        names = rx.consumer.end.names;
        heap = rx.consumer.end.heap;
        cap = rx_cap rx;
      }

  -- the two ends of one ring
  abbrev pub IsPair : Tx T → Rx T → Type 0
  IsPair tx rx = tx_ring tx ≡ rx_ring rx

-- what a contract sees of an end that sends, as plain data
pub record TxView (T : Type 0) : Type 0 where
  pub ring : Ring
  pub sent : List T
  pub free : ℕ

abbrev pub tx_view : {T : Type 0} → Tx T → TxView T
tx_view tx = record { ring = tx_ring tx; sent = sent tx; free = known_free tx }

-- what a contract sees of an end that receives
pub record RxView (T : Type 0) : Type 0 where
  pub ring : Ring
  pub received : List T
  pub known : List T

abbrev pub rx_view : {T : Type 0} → Rx T → RxView T
rx_view rx = record { ring = rx_ring rx; received = received rx; known = known_items rx }
