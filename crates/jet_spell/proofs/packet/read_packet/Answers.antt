use Rattle.std.proofs.Common.{inl, inr}
use Rattle.jet_spell.proofs.Longest.{malformed}
use Rattle.jet_spell.proofs.packet.read_packet.Goals as goal

pub returns-then-at-eq0-clause-cause : goal.returns-then-at-eq0-clause-cause
returns-then-at-eq0-clause-cause c =
    malformed c.in_ok-items.items.items c.in_ok-items.at c.args.bytes.now c.in_ok-items.ensures (elim c.then-at-eq0.either [ inl none ↦ inl none | inr short ↦ inr short.1 ])
