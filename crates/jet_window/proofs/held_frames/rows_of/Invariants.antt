use Rattle.std.proofs.Common.{◌≡◌, ℕ, List, ◌++◌, map}
use Rattle.std.specs.Prelude.{bytes_eq}
use Rattle.std.specs.Map.Iter.{deref_pair}
use Rattle.jet_items.specs.Frames.{only}
use Rattle.jet_items.specs.Totals.{total}
use Rattle.jet_items.specs.Values.{AccValue}
use Rattle.jet_window.proofs.Reaching.{KeysUp, key_list, slide_in}
use Rattle.jet_window.proofs.held_frames.rows_of.Given as goal

abbrev pub invariant-loop-key : goal.invariant-loop-key
invariant-loop-key l = record {
  each : (key : List ℕ) → total (λ (p : List ℕ × AccValue). only (bytes_eq p.0 key) p.1) l.rows.items ≡ total (slide_in key) (map deref_pair l.yielded);
  up : KeysUp (key_list l.rows.items ++ key_list l.key-iterator);
  all : map deref_pair l.yielded ++ l.key-iterator ≡ l.slides.entries;
}
