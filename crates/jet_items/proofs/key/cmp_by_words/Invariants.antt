use Rattle.std.proofs.Common.{◌≡◌, ◌*◌, drop}
use Rattle.std.specs.Ordering.{nat_cmp}
use Rattle.std.specs.Cmp.Lexicographic.{slice_cmp}
use Rattle.jet_items.proofs.key.cmp_by_words.Given as goal

abbrev pub invariant-loop-n : goal.invariant-loop-n
invariant-loop-n l = slice_cmp nat_cmp l.a l.b ≡ slice_cmp nat_cmp (drop (8 * l.n) l.a) (drop (8 * l.n) l.b)
