-- Wires that are the same at both ends.
use Rattle.std.proofs.Common.{◌≡◌, ◌∙◌, ap}
use Rattle.jet_layout.specs.declared.wire.Port.{Port}
use Rattle.jet_layout.specs.declared.wire.Taker.{Taker}
use Rattle.jet_layout.specs.declared.wire.Wire.{Wire}

abbrev pub wire : Port → Taker → Wire
wire g t = record { giver = g; taker = t }

pub same_wire : {g h : Port} {t u : Taker} → g ≡ h → t ≡ u → wire g t ≡ wire h u
same_wire {g} {h} {t} {u} p q = ap (λ x. wire x t) p ∙ ap (λ y. wire h y) q
