-- What the tests of givers and takers tell.
use Rattle.std.proofs.Common.{arith, ◌≡◌, ◌≢◌, ◌∙◌, ℕ, Bool, true, false, ap, refl, sym}
use Rattle.std.proofs.lemmas.Bool.Decides.{nat_tests}
use Rattle.jet_layout.specs.declared.wire.Port.{Port}
use Rattle.jet_layout.specs.declared.wire.Taker.{Taker}
use Rattle.jet_layout.specs.declared.wire.Taker.TheVariants.{Input, Sink}
use Rattle.jet_harness.specs.declared.channel.Giver.{Giver}
use Rattle.jet_harness.specs.declared.channel.Giver.TheVariants.{Output, File}
use Rattle.jet_harness.specs.Channels.{same_port, same_giver, same_taker}

abbrev port : ℕ → ℕ → Port
port t n = record { task = t; number = n }

same_ports : (t n u m : ℕ) → t ≡ u → n ≡ m → port t n ≡ port u m
same_ports t n u m e f = ap (λ x. port x n) e ∙ ap (port u) f

port_true : (p q : Port) → same_port p q ≡ true → p ≡ q
port_true p q e = same_ports p.task p.number q.task q.number (grind (arith, nat_tests)) (grind (arith, nat_tests))

port_itself : (p : Port) → same_port p p ≡ true
port_itself p = grind (arith, nat_tests)

pub giver_true : (a b : Giver) → same_giver a b ≡ true → a ≡ b
giver_true (Output p) (Output q) e = ap Output (port_true p q e)
giver_true (Output p) File e = cc
giver_true File (Output q) e = cc
giver_true File File e = refl

pub giver_itself : (a : Giver) → same_giver a a ≡ true
giver_itself (Output p) = port_itself p
giver_itself File = refl

pub taker_true : (a b : Taker) → same_taker a b ≡ true → a ≡ b
taker_true (Input p) (Input q) e = ap Input (port_true p q e)
taker_true (Input p) Sink e = cc
taker_true Sink (Input q) e = cc
taker_true Sink Sink e = refl

pub taker_itself : (a : Taker) → same_taker a a ≡ true
taker_itself (Input p) = port_itself p
taker_itself Sink = refl

false_unless : (b : Bool) → (b ≡ true → ⊥) → b ≡ false
false_unless true not_so = absurd (not_so refl)
false_unless false not_so = refl

-- an end of one is no end of another
pub giver_apart : (a b : Giver) → a ≢ b → (c : Giver) → same_giver a c ≡ true → same_giver b c ≡ false
giver_apart a b ne c e = false_unless (same_giver b c) (λ h. ne (giver_true a c e ∙ sym (giver_true b c h)))

pub taker_apart : (a b : Taker) → a ≢ b → (c : Taker) → same_taker a c ≡ true → same_taker b c ≡ false
taker_apart a b ne c e = false_unless (same_taker b c) (λ h. ne (taker_true a c e ∙ sym (taker_true b c h)))
