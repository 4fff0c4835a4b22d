-- How long spellings are.
use Rattle.std.proofs.Common.{◌≡◌, ℕ, ◌+◌, ◌*◌, ◌<◌, ◌≤◌, List, [], ◌∷◌, ◌++◌, length, take, drop, get_or, refl, sym, ap, ◌∙◌, arith}
use Rattle.std.specs.Prelude.{ℤ}
use Rattle.std.specs.Int.{w64}
use Rattle.std.proofs.lemmas.List.{length-append, flat_map_more, take_more}
use Rattle.jet_items.specs.Fits.{ItemFits}
use Rattle.jet_items.specs.Values.{EventValue, SideValue, AccValue}
use Rattle.jet_items.specs.declared.item.Item.{Item}
use Rattle.jet_items.specs.declared.item.Item.TheVariants as item
use Rattle.jet_spell.specs.Begins.{BeginsWith}
use Rattle.jet_spell.specs.Spelling.{signed_bytes, key_bytes, values_bytes, event_bytes, side_bytes, acc_bytes, span_bytes, spelling}

pub length_values : (v : List ℤ) → length (values_bytes v) ≡ 8 * length v
length_values [] = refl
length_values (z ∷ v) = length-append (signed_bytes w64 z) (values_bytes v) ∙ (let rest = length_values v in omega arith)

pub length_event : (e : EventValue) → length (event_bytes e) ≡ 15 + length e.key + 8 * length e.v
length_event e = omega (arith, length-append e.key (values_bytes e.v), length_values e.v)

pub length_side : (s : SideValue) → length (side_bytes s) ≡ 6 + length s.key + length s.label + 8 * length s.v
length_side s = omega (arith, length-append s.key (key_bytes s.label ++ values_bytes s.v), length-append s.label (values_bytes s.v), length_values s.v)

pub length_span : (vertex : ℕ) (end : ℤ) (k : List ℕ) (a : AccValue) → length (span_bytes vertex end k a) ≡ 50 + length k
length_span vertex end k a = omega (arith, length-append k (acc_bytes a))

pub short : (x : Item) → ItemFits x → (1 ≤ length (spelling x)) × (length (spelling x) ≤ 119)
unfolding spelling
short (item.Event e) f = (omega arith, omega (arith, length_event e, f.key.not_long, f.four))
short (item.Side s) f = (omega arith, omega (arith, length_side s, f.key.not_long, f.label.not_long, f.four))
short (item.Frame s) f = (omega arith, omega (arith, length_span s.vertex s.end s.key s.acc, f.key.not_long))
short (item.Row r) f = (omega arith, omega (arith, length_span r.vertex r.end r.key r.acc, f.key.not_long))
short (item.Late l) f = (omega arith, omega (arith, length_event l.event, f.event.key.not_long, f.event.four))
short (item.Mark t) f = (omega arith, omega arith)
short item.Done f = (omega arith, omega arith)
short item.Idle f = (omega arith, omega arith)

-- ---- one value more

pub values_more : (s t : List ℕ) (v : List ℤ) (i : ℕ) (d : ℤ) → i < length v → t ≡ s ++ values_bytes (take i v)
    → t ++ signed_bytes w64 (get_or v i d) ≡ s ++ values_bytes (take (i + 1) v)
values_more s t v i d lt is =
    ap (λ (l : List ℕ). l ++ signed_bytes w64 (get_or v i d)) is ∙ flat_map_more (signed_bytes w64) s (take i v) (get_or v i d)
    ∙ ap (λ (w : List ℤ). s ++ values_bytes w) (sym (take_more v i d lt))

-- ---- where bytes begin with an item

pub bounds : (x : Item) (n : ℕ) (bytes : List ℕ) → BeginsWith x n bytes → (0 < n) × (n ≤ length bytes)
bounds x n bytes b =
    let all : length bytes ≡ length (spelling x) + length (drop n bytes) = ap length b.begins ∙ length-append (spelling x) (drop n bytes) in
    (omega (arith, (short x b.fits).0, b.len), omega (arith, all, b.len))
