-- The item that bytes begin with. What is read is spelled so, and what is spelled is read (`Laws`).
use Rattle.std.specs.Prelude.{◌≡◌, ℕ, zero, suc, ℤ, Bool, true, false, nat_lt, ◌==◌, if◌then◌else◌, List, [], ◌∷◌, length, take, drop, Option, Some, None, MatchOption}
use Rattle.std.specs.Int.{Width, w16, w32, w64, w128, byte_len, from_be_bytes, cast_signed}
use Rattle.jet_items.specs.Values.{EventValue, SideValue, AccValue, FrameValue, RowValue, LateValue}
use Rattle.jet_items.specs.KeyBytes.{is_key}
use Rattle.jet_items.specs.Ranges.{is_within, most_time, most_frame_end, most_row_end, most_mark}
use Rattle.jet_items.specs.declared.item.Item.{Item}
use Rattle.jet_items.specs.declared.item.Item.TheVariants as item

-- a reader takes a value from the front of bytes and leaves those behind it, or finds none
abbrev pub Reads : Type 0 → Type 0
Reads A = List ℕ → Option (A × List ℕ)

-- goes on with what was read, if anything was
infixl 10 ◌>>=◌
abbrev pub ◌>>=◌ : {A B : Type 0} → Option A → (A → Option B) → Option B
(Some x) >>= f = f x
None >>= f = None

-- x where the test holds
abbrev pub only_if : {A : Type 0} → Bool → A → Option A
only_if true x = Some x
only_if false x = None

-- one value and then another
infixr 20 ◌&◌
abbrev pub ◌&◌ : {A B : Type 0} → Reads A → Reads B → Reads (A × B)
(first & second) bytes = do
  a ← first bytes
  b ← second a.1
  Some ((a.0, b.0), b.1)

-- what is made of a value
abbrev pub made : {A B : Type 0} → (A → B) → Reads A → Reads B
made make read bytes = do
  a ← read bytes
  Some (make a.0, a.1)

-- a value that passes a test
abbrev pub tested : {A : Type 0} → (A → Bool) → Reads A → Reads A
tested passes read bytes = do
  a ← read bytes
  only_if (passes a.0) a

-- one byte
unfoldable pub byte_at : Reads ℕ
byte_at [] = None
byte_at (b ∷ rest) = Some (b, rest)

-- a number of this width
unfoldable pub number_at : Width → Reads ℕ
number_at w bytes = if nat_lt (length bytes) (byte_len w) then None else Some (from_be_bytes w (take (byte_len w) bytes), drop (byte_len w) bytes)

-- a signed number of this width
unfoldable pub signed_at : Width → Reads ℤ
signed_at w = made (cast_signed w) (number_at w)

-- a time, a value or a mark, which lies so far from 0 at most
unfoldable pub within_at : ℕ → Reads ℤ
within_at most = tested (is_within most) (signed_at w64)

-- so many bytes
unfoldable pub bytes_at : ℕ → Reads (List ℕ)
bytes_at n bytes = if nat_lt (length bytes) n then None else Some (take n bytes, drop n bytes)

-- a key: its length, and then so many bytes that are a key of at most 40
unfoldable pub key_at : Reads (List ℕ)
key_at bytes = do
  n ← byte_at bytes
  tested (is_key 40) (bytes_at n.0) n.1

-- so many values
unfoldable pub values_at : ℕ → Reads (List ℤ)
values_at zero bytes = Some ([], bytes)
values_at (suc n) bytes = made (λ p. p.0 ∷ p.1) (within_at most_time & values_at n) bytes

-- ---- the fields of each kind, in their order

unfoldable pub event_at : Reads EventValue
event_at = made (λ p. record { part = p.0; line = p.1.0; ts = p.1.1.0; key = p.1.1.1.0; v = p.1.1.1.1 })
    (number_at w16 & number_at w32 & within_at most_time & key_at & values_at 4)

unfoldable pub side_at : Reads SideValue
side_at = made (λ p. record { line = p.0; key = p.1.0; label = p.1.1.0; v = p.1.1.1 }) (number_at w32 & key_at & key_at & values_at 4)

unfoldable pub acc_at : Reads AccValue
acc_at = made (λ p. record { count = p.0; sum = p.1.0; min = p.1.1.0; max = p.1.1.1 })
    (number_at w64 & signed_at w128 & within_at most_time & within_at most_time)

unfoldable pub frame_at : Reads FrameValue
frame_at = made (λ p. record { vertex = p.0; end = p.1.0; key = p.1.1.0; acc = p.1.1.1 }) (byte_at & within_at most_frame_end & key_at & acc_at)

unfoldable pub row_at : Reads RowValue
row_at = made (λ p. record { vertex = p.0; end = p.1.0; key = p.1.1.0; acc = p.1.1.1 }) (byte_at & within_at most_row_end & key_at & acc_at)

unfoldable pub late_at : Reads LateValue
late_at = made (λ p. record { vertex = p.0; event = p.1 }) (byte_at & event_at)

-- an item of the kind that the tag tells
unfoldable pub kind_at : ℕ → Reads Item
kind_at tag bytes =
    if tag == 1 then made (λ e. item.Event e) event_at bytes
    else if tag == 2 then made (λ s. item.Side s) side_at bytes
    else if tag == 3 then made (λ f. item.Frame f) frame_at bytes
    else if tag == 4 then made (λ r. item.Row r) row_at bytes
    else if tag == 5 then made (λ l. item.Late l) late_at bytes
    else if tag == 6 then made (λ t. item.Mark t) (within_at most_mark) bytes
    else if tag == 7 then Some (item.Done, bytes)
    else if tag == 8 then Some (item.Idle, bytes)
    else None

-- the item that the bytes begin with, and the bytes behind it
unfoldable pub item_at : Reads Item
item_at bytes = do
  tag ← byte_at bytes
  kind_at tag.0 tag.1

-- the answer of a call that reads: the value with the bytes that are left, or none
abbrev pub Answers : {A : Type 0} → Option (A × List ℕ) → Option A → List ℕ → Type 0
Answers read answer left = MatchOption answer (read ≡ None) (λ a. read ≡ Some (a, left))
