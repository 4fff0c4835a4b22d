-- The end of a link: what the receiver gave is all that the sender passed on.
use Rattle.std.proofs.Common.{◌≡◌, ◌||◌, Bool, true, false, All, ℕ, List, [], ◌∷◌, ◌++◌, length, refl, sym, ◌∙◌, ap, subst, arith, append_assoc, append-nil, Option, Some, None, inl, inr, length-append}
use Rattle.std.specs.Prelude.{◌⊎◌}
use Rattle.std.proofs.lemmas.List.Concat.{flat_map-append, flat_map-cons}
use Rattle.std.proofs.lemmas.List.Elements.{All-nil, All-cons}
use Rattle.std.proofs.lemmas.List.Folds.{list_any-append}
use mathlib.Core.List.{IsPrefix}
use Rattle.jet_items.specs.declared.item.Item.{Item}
use Rattle.jet_items.specs.Done.{is_done}
use Rattle.jet_conveyor.specs.Conveyor.{EndsIn}
use Rattle.jet_spell.specs.Laws.{SpellingsAreShort}
use Rattle.jet_spell.specs.Spelling.{spellings}
use Rattle.jet_link.specs.declared.packet.Packet.{Packet}
use Rattle.jet_link.specs.Meeting.{BothMet, IsEmptied}
use Rattle.jet_link.specs.Packets.{packet_bytes, packed}
use Rattle.jet_wire.specs.DoneLast.{DoneLast, SendsDoneLast}
use Rattle.jet_wire.specs.Meeting.{GivesWhatWasSent, GivesAll, IsOver}
use Rattle.jet_wire.specs.Noting.{items_in}
use Rattle.jet_wire.specs.Passing.{Taken, has_ended}
use Rattle.jet_wire.specs.Receiver.{ReceiverView, bytes_left, ReceiverKeeps}
use Rattle.jet_wire.specs.ReceiverTurn.{ReceiverHasEnded}
use Rattle.jet_wire.specs.Sender.{SenderView, SenderKeeps}
use Rattle.jet_wire.specs.SenderTurn.{SenderHasEnded}
use Rattle.jet_wire.proofs.DoneLast.{none_has}
use Rattle.jet_wire.proofs.Packets.{none_left}
use Rattle.jet_wire.proofs.Passing.{sends_all}

-- ---- a list with Done at its end alone
nothing_behind : {X : Type 0} (xs ys : List X) → xs ++ ys ≡ [] → ys ≡ []
nothing_behind [] ys e = e
nothing_behind (x ∷ xs) ys e = absurd (cc)

nothing_before : {X : Type 0} (xs ys : List X) → xs ++ ys ≡ [] → xs ≡ []
nothing_before [] ys e = refl
nothing_before (x ∷ xs) ys e = absurd (cc)

cut : (xs rest front : List Item) (last : Item) → xs ++ rest ≡ front ++ last ∷ [] → (rest ≡ []) ⊎ ((more : List Item) × (front ≡ xs ++ more))
cut [] rest front last e = inr (front, refl)
cut (x ∷ xs) rest [] last e = inl (nothing_behind xs rest (let tail : xs ++ rest ≡ [] = cc in tail))
cut (x ∷ xs) rest (f ∷ front) last e =
    let head : x ≡ f = cc in
    let tail : xs ++ rest ≡ front ++ last ∷ [] = cc in
    elim (cut xs rest front last tail) [ inl none ↦ inl none | inr more ↦ inr (more.0, (let is : front ≡ xs ++ more.0 = more.1 in cc)) ]

or_so : (b c : Bool) → b ≡ true → (b || c) ≡ true
or_so true c e = refl
or_so false c e = absurd (cc)

pub has_behind : (xs ys : List Item) → has_ended xs ≡ true → has_ended (xs ++ ys) ≡ true
has_behind xs ys e = list_any-append is_done xs ys ∙ or_so (has_ended xs) (has_ended ys) e

abbrev NotDone : Item → Type 0
NotDone x = is_done x ≡ false

no_more : (xs more front : List Item) → front ≡ xs ++ more → All NotDone front → has_ended xs ≡ true → ⊥
no_more xs more front is none e =
    let yes : has_ended front ≡ true = ap has_ended is ∙ has_behind xs more e in
    let no : has_ended front ≡ false = none_has front none in
    cc

-- what has a Done is the whole list
whole : (xs rest : List Item) → EndsIn (has_ended (xs ++ rest)) (xs ++ rest) → has_ended xs ≡ true → rest ≡ []
whole xs rest ends e =
    let w : EndsIn true (xs ++ rest) = subst (λ (b : Bool). EndsIn b (xs ++ rest)) (has_behind xs rest e) ends in
    elim (cut xs rest w.0 w.1 w.2) [ inl none ↦ none | inr more ↦ absurd (no_more xs more.0 w.0 more.1 w.4 e) ]

or_parts : (b c : Bool) → (b || c) ≡ false → (b ≡ false) × (c ≡ false)
or_parts true c e = absurd (cc)
or_parts false c e = (refl, e)

has_none : (xs : List Item) → has_ended xs ≡ false → All NotDone xs
has_none [] e = All-nil NotDone
has_none (x ∷ xs) e = let parts = or_parts (is_done x) (has_ended xs) e in All-cons NotDone x xs parts.0 (has_none xs parts.1)

-- a front of a list with Done at its end alone is one too
pub front_ends : (xs rest : List Item) (b : Bool) → has_ended xs ≡ b → EndsIn (has_ended (xs ++ rest)) (xs ++ rest) → EndsIn b xs
front_ends xs rest false e ends = has_none xs e
front_ends xs rest true e ends =
    let none : rest ≡ [] = whole xs rest ends e in
    subst (EndsIn true) (ap (λ (ys : List Item). xs ++ ys) none ∙ append-nil xs) (subst (λ (b : Bool). EndsIn b (xs ++ rest)) (has_behind xs rest e) ends)

none_in : (o : Option Item) → items_in o ≡ [] → o ≡ None
none_in None e = refl
none_in (Some x) e = absurd (cc)

no_packets : (ps : List Packet) → length (packed ps) ≡ 0 → ps ≡ []
no_packets [] e = refl
no_packets (p ∷ ps) e = absurd (omega (arith, p.some, ap length (flat_map-cons packet_bytes p ps), length-append p.buf.bytes (packed ps), e))

module _ (s : SenderView) (r : ReceiverView) (came : List Taken) (sent given : List Item) (k : SenderKeeps s came sent) (g : ReceiverKeeps r given) (m : BothMet s.end r.end) where
  abbrev held : List Item
  held = k.sends.written ++ items_in s.hand

  -- all that was passed on is what was given and more
  total : (p : IsPrefix given sent) → (sent ++ k.sends.written) ++ items_in s.hand ≡ given ++ (p.0 ++ held)
  total p = append_assoc sent k.sends.written (items_in s.hand) ∙ (ap (λ (xs : List Item). xs ++ held) (sym p.1) ∙ append_assoc given p.0 held)

  pub given_last : GivesWhatWasSent s r → SendsDoneLast s → EndsIn (has_ended given) given × (has_ended given ≡ true → All (λ d. d ≡ true) s.queues.done)
  given_last front done =
      let p : IsPrefix given sent = front came sent given k g m in
      let d : DoneLast s.queues ((sent ++ k.sends.written) ++ items_in s.hand) = done came sent k in (
        front_ends given (p.0 ++ held) (has_ended given) refl (subst (λ (xs : List Item). EndsIn (has_ended xs) xs) (total p) d.last),
        λ e. d.over (ap has_ended (total p) ∙ has_behind given (p.0 ++ held) e),
      )

  -- ---- the receiver has ended
  pub over : GivesWhatWasSent s r → SendsDoneLast s → ReceiverHasEnded r → IsOver s r came sent given
  over front done e =
      let p : IsPrefix given sent = front came sent given k g m in
      let d : DoneLast s.queues ((sent ++ k.sends.written) ++ items_in s.hand) = done came sent k in
      let ended : has_ended given ≡ true = sym g.done ∙ e.done in
      let none : p.0 ++ held ≡ [] = whole given (p.0 ++ held) (subst (λ (xs : List Item). EndsIn (has_ended xs) xs) (total p) d.last) ended in
      let more : p.0 ≡ [] = nothing_before p.0 held none in
      let holds : held ≡ [] = nothing_behind p.0 held none in
      let written : k.sends.written ≡ [] = nothing_before k.sends.written (items_in s.hand) holds in
      let sent_all : given ≡ sent = sym (append-nil given) ∙ (ap (λ (xs : List Item). given ++ xs) (sym more) ∙ p.1) in
      let left : bytes_left r ≡ [] = none_left r e.held g.inside in
      let received : packed r.end.packets.received ≡ spellings given = g.bytes ∙ (ap (λ (bs : List ℕ). spellings given ++ bs) left ∙ append-nil (spellings given)) in
      let all : packed r.end.packets.received ++ packed r.end.packets.known ≡ spellings given =
      sym (flat_map-append packet_bytes r.end.packets.received r.end.packets.known) ∙ (ap packed m.packets ∙ (k.sends.packets ∙ ap spellings (sym sent_all))) in
      record {
        passed_all = sym (append-nil given) ∙ (ap (λ (xs : List Item). given ++ xs) (sym none) ∙ (sym (total p) ∙ k.sends.follows));
        sent_all = sent_all;
        done = d.over (ap has_ended (total p) ∙ has_behind given (p.0 ++ held) ended);
        hand = none_in s.hand (nothing_behind k.sends.written (items_in s.hand) holds);
        work = k.sends.work ∙ ap spellings written;
        known = no_packets r.end.packets.known (omega (arith, ap length all, ap length received, length-append (packed r.end.packets.received) (packed r.end.packets.known)));
      }

  -- ---- the sender has ended
  pub ends_after : GivesAll s r → SendsDoneLast s → SpellingsAreShort → IsEmptied s.end r.end → SenderHasEnded s → ReceiverHasEnded r
  ends_after all done short empty e =
      let d : DoneLast s.queues ((sent ++ k.sends.written) ++ items_in s.hand) = done came sent k in
      let same : given ≡ sent = all came sent given k g m empty.known (none_left r empty.held g.inside) in
      let passed_all : sent ≡ (sent ++ k.sends.written) ++ items_in s.hand = sends_all short s came sent k e.all.hand e.all.work ∙ sym k.sends.follows in
      record {
        done = g.done ∙ (ap has_ended (same ∙ passed_all) ∙ d.given e.all.done);
        held = empty.held;
      }
