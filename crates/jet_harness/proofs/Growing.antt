-- Rings that are made one after another.
use Rattle.std.proofs.Common.{arith, ◌≡◌, ◌∙◌, ◌++◌, ◌∷◌, [], ℕ, List, map, ap, refl, sym, subst, append_assoc}
use Rattle.std.specs.Prelude.{filter}
use Rattle.std.proofs.lemmas.List.{append-nil, length_push}
use Rattle.std.proofs.lemmas.List.Elements.{All-nil, All-push}
use Rattle.jet_items.specs.declared.item.Item.{Item}
use Rattle.jet_ring.specs.Ring.{Ring, sent, known_free, received, known_items, tx_cap, tx_ring, rx_ring, tx_view, rx_view}
use Rattle.jet_ring.specs.declared.ends.Tx.{Tx}
use Rattle.jet_ring.specs.declared.ends.Rx.{Rx}
use Rattle.jet_harness.specs.declared.channel.Channel.{Channel}
use Rattle.jet_harness.specs.declared.harness.GiverEnd.{GiverEnd}
use Rattle.jet_harness.specs.declared.harness.TakerEnd.{TakerEnd}
use Rattle.jet_harness.specs.declared.harness.Harness.{Harness}
use Rattle.jet_harness.specs.Channels.{same_giver, same_taker}
use Rattle.jet_harness.specs.Harness.{fresh_tx, fresh_rx, given_by, taken_by, Joins}
use Rattle.jet_harness.specs.inner.Growing.{Adds}
use Rattle.jet_harness.proofs.Chosen.{one_if, filter_more, chosen_more}

-- the ends of a ring that was just made
pub fresh_sender : (tx : Tx Item) (n : ℕ) → sent tx ≡ [] → known_free tx ≡ n → tx_cap tx ≡ n → tx_view tx ≡ fresh_tx (tx_ring tx)
fresh_sender tx n s f c =
    ap (λ l. record { ring = tx_ring tx; sent = l; free = known_free tx }) s
    ∙ ap (λ k. record { ring = tx_ring tx; sent = []; free = k }) (f ∙ sym c)

pub fresh_receiver : (rx : Rx Item) (r : Ring) → r ≡ rx_ring rx → received rx ≡ [] → known_items rx ≡ [] → rx_view rx ≡ fresh_rx r
fresh_receiver rx r e s k =
    ap (λ l. record { ring = rx_ring rx; received = l; known = known_items rx }) s
    ∙ ap (λ l. record { ring = rx_ring rx; received = []; known = l }) k
    ∙ ap fresh_rx (sym e)

-- a ring more
pub record IsNewRing (a b : Harness) (c : Channel) (capacity : ℕ) (r : Ring) (e : GiverEnd) (f : TakerEnd) : Type 0 where
  pub txs : b.txs.items ≡ a.txs.items ++ e ∷ []
  pub rxs : b.rxs.items ≡ a.rxs.items ++ f ∷ []
  pub giver : e.giver ≡ c.giver
  pub taker : f.taker ≡ c.taker
  pub tx : tx_view e.tx ≡ fresh_tx r
  pub rx : rx_view f.rx ≡ fresh_rx r
  pub size : r.cap ≡ capacity

pub joins_more : (cs : List Channel) (capacity : ℕ) (rings : List Ring) (a b : Harness) (c : Channel) (r : Ring) (e : GiverEnd) (f : TakerEnd) → Joins cs capacity rings a → IsNewRing a b c capacity r e f → Joins (cs ++ c ∷ []) capacity (rings ++ r ∷ []) b
joins_more cs capacity rings a b c r e f j n = record {
  one_each = let l = length_push rings r in let k = length_push cs c in omega (arith, l, k, j.one_each);
  sizes = All-push (λ (x : Ring). x.cap ≡ capacity) rings r j.sizes n.size;
  givers = λ g.
      ap (λ l. map (λ (x : GiverEnd). tx_view x.tx) (filter (λ x. same_giver g x.giver) l)) n.txs
      ∙ filter_more (λ (x : GiverEnd). same_giver g x.giver) (λ x. tx_view x.tx) a.txs.items e
      ∙ ap (λ l. l ++ one_if (same_giver g e.giver) (tx_view e.tx)) (j.givers g)
      ∙ ap (λ x. map fresh_tx (given_by g cs rings) ++ one_if (same_giver g x) (tx_view e.tx)) n.giver
      ∙ ap (λ x. map fresh_tx (given_by g cs rings) ++ one_if (same_giver g c.giver) x) n.tx
      ∙ sym (chosen_more (λ (x : Channel). same_giver g x.giver) fresh_tx cs rings c r j.one_each);
  takers = λ t.
      ap (λ l. map (λ (x : TakerEnd). rx_view x.rx) (filter (λ x. same_taker t x.taker) l)) n.rxs
      ∙ filter_more (λ (x : TakerEnd). same_taker t x.taker) (λ x. rx_view x.rx) a.rxs.items f
      ∙ ap (λ l. l ++ one_if (same_taker t f.taker) (rx_view f.rx)) (j.takers t)
      ∙ ap (λ x. map fresh_rx (taken_by t cs rings) ++ one_if (same_taker t x) (rx_view f.rx)) n.taker
      ∙ ap (λ x. map fresh_rx (taken_by t cs rings) ++ one_if (same_taker t c.taker) x) n.rx
      ∙ sym (chosen_more (λ (x : Channel). same_taker t x.taker) fresh_rx cs rings c r j.one_each);
}

pub adds_one : (capacity : ℕ) (a b : Harness) (c : Channel) (r : Ring) (e : GiverEnd) (f : TakerEnd) → IsNewRing a b c capacity r e f → Adds (c ∷ []) capacity a b
adds_one capacity a b c r e f n = λ cs rings j. (rings ++ r ∷ [], joins_more cs capacity rings a b c r e f j n)

pub adds_none : (capacity : ℕ) (a : Harness) → Adds [] capacity a a
adds_none capacity a = λ cs rings j. (rings, subst (λ l. Joins l capacity rings a) (sym (append-nil cs)) j)

pub adds_more : (capacity : ℕ) (a b c : Harness) (xs ys zs : List Channel) → Adds xs capacity a b → Adds ys capacity b c → zs ≡ xs ++ ys → Adds zs capacity a c
adds_more capacity a b c xs ys zs f g e = λ cs rings j.
    let p = f cs rings j in
    let q = g (cs ++ xs) p.0 p.1 in
    (q.0, subst (λ l. Joins l capacity q.0 c) (append_assoc cs xs ys ∙ ap (λ l. cs ++ l) (sym e)) q.1)

-- no ring at all
pub joins_none : (capacity : ℕ) (a : Harness) → a.txs.items ≡ [] → a.rxs.items ≡ [] → Joins [] capacity [] a
joins_none capacity a p q = record {
  one_each = refl;
  sizes = All-nil _;
  givers = λ g. ap (λ l. map (λ (x : GiverEnd). tx_view x.tx) (filter (λ x. same_giver g x.giver) l)) p;
  takers = λ t. ap (λ l. map (λ (x : TakerEnd). rx_view x.rx) (filter (λ x. same_taker t x.taker) l)) q;
}
