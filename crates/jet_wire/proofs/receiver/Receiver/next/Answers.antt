use Rattle.std.proofs.Common.{◌≡◌, List, [], ℕ, subst}
use Rattle.std.specs.Prelude.{IfNone}
use Rattle.jet_spell.specs.Begins.{BeginsNone}
use Rattle.jet_wire.specs.Receiver.{receiver_view, bytes_left}
use Rattle.jet_wire.proofs.Dealing.{nothing_left, if_none, rest_of}
use Rattle.jet_wire.proofs.receiver.Receiver.next.Goals as goal

pub returns-clause-none : goal.returns-clause-none
returns-clause-none c =
    let left : List ℕ = bytes_left (receiver_view c.args.self.now) in
    if_none c.read_item.result {P = BeginsNone left} {Q = left ≡ []}
    (subst (λ (b : List ℕ). IfNone c.read_item.result (BeginsNone b)) (rest_of c.bytes.result.now _ c.args.self.now.at c.bytes.ensures.bytes) c.read_item.ensures.none)
    (nothing_left left c.requires.spelled)
