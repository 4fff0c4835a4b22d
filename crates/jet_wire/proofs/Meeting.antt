-- Meetings of the two ends of a link.
use Rattle.std.proofs.Common.{◌≡◌, ℕ, List, [], ◌∷◌, ◌++◌, drop, sym, ◌∙◌, ap, subst, append_assoc, append-nil}
use Rattle.std.specs.List.{AllByRecursion}
use Rattle.std.proofs.lemmas.List.Concat.{flat_map-append, flat_map-cons}
use mathlib.Core.List.{IsPrefix}
use base.Growing.{prefix_anti}
use Rattle.jet_items.specs.Fits.{ItemFits}
use Rattle.jet_items.specs.declared.item.Item.{Item}
use Rattle.jet_spell.specs.Laws.{FrontOf}
use Rattle.jet_spell.specs.Begins.{BeginsWith}
use Rattle.jet_spell.specs.Spelling.{spelling, spellings}
use Rattle.jet_link.specs.Meeting.{SendMet, RecvMet, BothMet}
use Rattle.jet_link.specs.Packets.{packet_bytes, packed}
use Rattle.jet_link.specs.Views.{SendView, RecvView}
use Rattle.jet_wire.specs.Passing.{Taken}
use Rattle.jet_wire.specs.Receiver.{ReceiverView, bytes_left, ReceiverKeeps, ReceiverStays}
use Rattle.jet_wire.specs.Sender.{SenderView, work_bytes, SenderKeeps, Stays}
use Rattle.jet_wire.proofs.Dealing.{fit_all}

-- ---- neither end gives or takes anything by a meeting
pub sender_met : (v : SenderView) (e : SendView) → SendMet v.end e → Stays v (record v { end = e })
sender_met v e m = record {
  stays = λ came sent k. record {
    takes_in = k.takes_in;
    sends = record {
      packets = ap packed m.packets.sent ∙ k.sends.packets;
      written = k.sends.written;
      work = ap (λ (w : SendView). work_bytes w.work) m.is ∙ k.sends.work;
      fits = k.sends.fits;
      follows = k.sends.follows;
    };
  };
}

pub receiver_met : (v : ReceiverView) (e : RecvView) → RecvMet v.end e → ReceiverStays v (record v { end = e })
receiver_met v e m = record {
  stays = λ items k.
      let held : e.held ≡ v.end.held = ap (λ (w : RecvView). w.held) m.is in
      let whole : e.whole ≡ v.end.whole = ap (λ (w : RecvView). w.whole) m.is in
      let moved : ReceiverView = record v { end = record v.end { packets = e.packets; acks = e.acks } } in
      let kept : ReceiverKeeps moved items = record {
        deals = k.deals;
        dealt = k.dealt;
        items = k.items;
        fits = k.fits;
        bytes = ap packed m.packets.received ∙ k.bytes;
        inside = k.inside;
        spelled = k.spelled;
        hand = k.hand;
        owed = k.owed;
        dests = k.dests;
        whole = k.whole;
        done = k.done;
      } in
      subst (λ (w : RecvView). ReceiverKeeps (record v { end = w }) items) (sym m.is) kept;
}

-- ---- what was given is what was sent
pub front_fits : (xs ys : List Item) → AllByRecursion ItemFits (xs ++ ys) → AllByRecursion ItemFits xs
front_fits [] ys f = tt
front_fits (x ∷ xs) ys f = (f.0, front_fits xs ys f.1)

module _ (law : FrontOf) (s : SenderView) (r : ReceiverView) (came : List Taken) (sent given : List Item) (k : SenderKeeps s came sent) (g : ReceiverKeeps r given) (m : BothMet s.end r.end) where
  -- the bytes of what was given, and those behind them
  all_bytes : spellings given ++ (bytes_left r ++ packed r.end.packets.known) ≡ spellings sent
  all_bytes =
      sym (append_assoc (spellings given) (bytes_left r) (packed r.end.packets.known))
      ∙ (ap (λ (b : List ℕ). b ++ packed r.end.packets.known) (sym g.bytes)
      ∙ (sym (flat_map-append packet_bytes r.end.packets.received r.end.packets.known) ∙ (ap packed m.packets ∙ k.sends.packets)))

  sent_fits : AllByRecursion ItemFits sent
  sent_fits = front_fits sent k.sends.written k.sends.fits

  pub given_front : IsPrefix given sent
  given_front = law given sent (bytes_left r ++ packed r.end.packets.known) g.fits sent_fits all_bytes

  pub next_front : (x : Item) (n : ℕ) → BeginsWith x n (bytes_left r) → IsPrefix (given ++ x ∷ []) sent
  next_front x n w =
      let rest : List ℕ = drop n (bytes_left r) in
      let known : List ℕ = packed r.end.packets.known in
      let more : spellings (given ++ x ∷ []) ≡ spellings given ++ spelling x =
      flat_map-append spelling given (x ∷ []) ∙ ap (λ (b : List ℕ). spellings given ++ b) (flat_map-cons spelling x [] ∙ append-nil (spelling x)) in
      law (given ++ x ∷ []) sent (rest ++ known) (fit_all given x g.fits w.fits) sent_fits
      (ap (λ (b : List ℕ). b ++ (rest ++ known)) more
      ∙ (append_assoc (spellings given) (spelling x) (rest ++ known)
      ∙ (ap (λ (b : List ℕ). spellings given ++ b) (sym (append_assoc (spelling x) rest known) ∙ ap (λ (b : List ℕ). b ++ known) (sym w.begins)) ∙ all_bytes)))

  pub given_all : r.end.packets.known ≡ [] → bytes_left r ≡ [] → given ≡ sent
  given_all none left =
      let nothing : bytes_left r ++ packed r.end.packets.known ≡ [] = ap (λ (b : List ℕ). b ++ packed r.end.packets.known) left ∙ ap packed none in
      let same : spellings given ≡ spellings sent = sym (append-nil (spellings given)) ∙ (ap (λ (b : List ℕ). spellings given ++ b) (sym nothing) ∙ all_bytes) in
      let back : IsPrefix sent given = law sent given [] sent_fits g.fits (append-nil (spellings sent) ∙ sym same) in
      prefix_anti given sent given_front back
