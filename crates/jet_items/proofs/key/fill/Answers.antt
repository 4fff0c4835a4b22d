use Rattle.std.proofs.Common.{arith, rules}
use Rattle.jet_items.proofs.KeyLemmas.{zeros_at, bad_at, none_bad, padded_by}
use Rattle.jet_items.proofs.key.fill.Goals as goal

pub loop-at-init : goal.loop-at-init
loop-at-init c = record {
  long = c.told-padded;
  good = λ k h. absurd (omega (arith, h));
  written = λ k h. absurd (omega (arith, h));
  zeros = zeros_at c.args.padded.now c.requires.zeros;
}

pub returns-then-not-is_key_byte-clause-place : goal.returns-then-not-is_key_byte-clause-place
returns-then-not-is_key_byte-clause-place c =
    bad_at c.args.bytes.now c.loop-at.at (omega arith) c.loop-at.invariant.good (search rules)

pub returns-clause-place : goal.returns-clause-place
returns-clause-place c = none_bad c.args.bytes.now (λ k h. c.loop-at.invariant.good k (omega (arith, h)))

pub returns-clause-filled : goal.returns-clause-filled
returns-clause-filled c =
    padded_by c.args.bytes.now c.loop-at.padded c.requires.room c.loop-at.invariant.long (λ k h. c.loop-at.invariant.written k (omega (arith, h))) (λ k h. c.loop-at.invariant.zeros k (omega (arith, h)))
