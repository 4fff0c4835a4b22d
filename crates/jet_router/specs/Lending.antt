-- What a router ends as once a lent end comes back.
use Rattle.std.specs.Prelude.{ℕ, false, slice_index_or}
use Rattle.std.specs.Borrow.{Lends, MutBor, Fml}
use Rattle.std.specs.Vec.{with_item}
use Rattle.jet_items.specs.declared.item.Item.{Item}
use Rattle.jet_items.specs.contracts.item.Item as item
use Rattle.jet_ring.specs.declared.ends.Tx.{Tx}
use Rattle.jet_ring.specs.contracts.ends.Tx as tx
use Rattle.jet_router.specs.declared.router.Router.{Router}
use Rattle.jet_router.specs.contracts.router.Router.{the_row}

-- r with the end of the destination d changed to w; `was` is the end as it was
abbrev pub with_tx : Router → ℕ → Tx Item → Tx Item → Router
with_tx r d was w =
    record r { dests = with_item r.dests d (record (slice_index_or r.dests.items d (record { tx = was; had = false })) { tx = w }) }

abbrev pub LendsTx : MutBor Router → ℕ → MutBor (Tx Item) → Fml
LendsTx s d r = Lends the_row (tx.the_row item.the_row) s r (with_tx s.now d r.now)
