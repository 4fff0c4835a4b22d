-- Bytes that are held move to the front, and a piece comes behind them.
use Rattle.std.proofs.Common.{◌≡◌, ℕ, ◌+◌, ◌-◌, ◌≤◌, List, ◌++◌, length, take, drop, get_or, ap, sym, ◌∙◌, arith, length-drop, length-take-le, length-append, take-append-drop, zero-add}
use Rattle.std.proofs.Math.Seq.{drop-append-add, paste}
use Rattle.std.proofs.lemmas.List.{append-nil, drop-append-le, drop-take, drop_all, take-append-le, take_all, get_or_append_left}
use Rattle.std.proofs.lemmas.List.Edits.{take-paste}
use Rattle.jet_lines.specs.Held.{IsHeld}

-- what is behind a place comes behind the place that it has then
pub rest_grows : (bytes piece : List ℕ) (gone at : ℕ) → gone ≤ at → at ≤ length bytes → drop (at - gone) (drop gone bytes ++ piece) ≡ drop at bytes ++ piece
rest_grows bytes piece gone at less fits =
    let front : length (take gone bytes) ≡ gone = length-take-le gone bytes (omega arith) in
    let back : length (take gone bytes) + (at - gone) ≡ at = omega (arith, front) in
    drop-append-le (at - gone) (drop gone bytes) piece (omega (arith, length-drop gone bytes))
    ∙ ap (λ (s : List ℕ). s ++ piece)
    (sym (drop-append-add (take gone bytes) (drop gone bytes) (at - gone))
    ∙ ap (λ (k : ℕ). drop k (take gone bytes ++ drop gone bytes)) back
    ∙ ap (λ (s : List ℕ). drop at s) (take-append-drop gone bytes))

-- the line stays
pub line_stays : (bytes piece : List ℕ) (gone from to : ℕ) → gone ≤ from → from ≤ to → to ≤ length bytes
    → take (to - gone - (from - gone)) (drop (from - gone) (drop gone bytes ++ piece)) ≡ take (to - from) (drop from bytes)
line_stays bytes piece gone from to less order fits =
    let count : to - gone - (from - gone) ≡ to - from = omega arith in
    ap (λ (n : ℕ). take n (drop (from - gone) (drop gone bytes ++ piece))) count
    ∙ ap (λ (s : List ℕ). take (to - from) s) (rest_grows bytes piece gone from less (omega arith))
    ∙ take-append-le (to - from) (drop from bytes) piece (omega (arith, length-drop from bytes))

-- and what is kept of the bytes holds of where they are then
pub held_moves : (bytes piece : List ℕ) (gone from to at clear number most : ℕ) → gone ≤ from → IsHeld bytes from to at clear number most
    → IsHeld (drop gone bytes ++ piece) (from - gone) (to - gone) (at - gone) clear number most
held_moves bytes piece gone from to at clear number most less h = record {
  from_to = omega (arith, h.from_to, less);
  to_at = omega (arith, h.to_at, h.from_to, less);
  end_at = omega (arith, h.end_at, h.to_at, h.from_to, less);
  within = omega (arith, h.within, h.to_at, h.from_to, less, length-append (drop gone bytes) piece, length-drop gone bytes);
  no_feed =
      λ k below feed. h.no_feed k below
      (sym (get_or_append_left (drop at bytes) piece 0 k (omega (arith, below, h.within, length-drop at bytes)))
      ∙ ap (λ (s : List ℕ). get_or s k 0) (sym (rest_grows bytes piece gone at (omega (arith, h.to_at, h.from_to, less)) (omega (arith, h.within))))
      ∙ feed);
  not_many = h.not_many;
  most_fits = h.most_fits;
}

-- bytes that moved to the front, and a piece behind them
pub moved_and_put : (bytes moved piece put : List ℕ) (done len : ℕ) → done ≤ len → len ≤ length bytes → moved ≡ paste bytes 0 (drop done bytes) (len - done)
    → put ≡ piece → take (len - done) moved ++ put ≡ drop done (take len bytes) ++ piece
moved_and_put bytes moved piece put done len less fits move same =
    let sum : done + (len - done) ≡ len = omega arith in
    let kept : take (len - done) moved ≡ drop done (take len bytes) =
    ap (λ (s : List ℕ). take (len - done) s) move
    ∙ ap (λ (n : ℕ). take n (paste bytes 0 (drop done bytes) (len - done))) (sym (zero-add (len - done)))
    ∙ take-paste bytes 0 (drop done bytes) (len - done) (omega arith) (omega (arith, length-drop done bytes))
    ∙ sym (drop-take done (len - done) bytes) ∙ ap (λ (n : ℕ). drop done (take n bytes)) sum in
    ap (λ (s : List ℕ). s ++ put) kept ∙ ap (λ (s : List ℕ). drop done (take len bytes) ++ s) same

-- a list of the same length in place of another
whole : (old new : List ℕ) (n : ℕ) → n ≡ length old → length new ≡ length old → take n (new ++ drop (length new) old) ≡ new
whole old new n count same =
    ap (λ (s : List ℕ). take n (new ++ s)) (drop_all (length new) old (omega (arith, same)))
    ∙ ap (λ (s : List ℕ). take n s) (append-nil new) ∙ take_all n new (omega (arith, count, same))

-- a piece was put behind the bytes in a vector's list, which its caller lent
pub record IsPut (items new piece : List ℕ) (n len gone : ℕ) : Type 0 where
  pub count : length new ≡ length items
  pub same : take n (new ++ drop (length new) items) ≡ new
  pub bytes : take (len - gone + length piece) new ≡ drop gone (take len items) ++ piece

pub put_in : (items lent new piece : List ℕ) (n len gone : ℕ) → lent ≡ items → n ≡ length lent → length new ≡ length lent
    → take (len - gone + length piece) new ≡ drop gone (take len lent) ++ piece → IsPut items new piece n len gone
put_in items lent new piece n len gone is count same put =
    let items_len = ap length is in record {
      count = omega (arith, same, items_len);
      same = whole items new n (omega (arith, count, items_len)) (omega (arith, same, items_len));
      bytes = put ∙ ap (λ (xs : List ℕ). drop gone (take len xs) ++ piece) is;
    }
