use Rattle.std.proofs.Common.{◌≡◌, ℕ, ◌<◌, ◌≤◌, length, get_or, true}
use Rattle.jet_items.specs.KeyBytes.{is_key_byte}
use Rattle.jet_items.proofs.key.fill.Given as goal

abbrev pub invariant-loop-at : goal.invariant-loop-at
invariant-loop-at l = record {
  long : length l.padded ≡ 40;
  good : (k : ℕ) → k < l.at → is_key_byte (get_or l.bytes k 0) ≡ true;
  written : (k : ℕ) → k < l.at → get_or l.padded k 0 ≡ get_or l.bytes k 0;
  zeros : (k : ℕ) → l.at ≤ k → get_or l.padded k 0 ≡ 0;
}
