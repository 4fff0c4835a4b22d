-- A new sender.
use Rattle.std.proofs.Common.{◌≡◌, ℕ, zero, suc, List, [], ◌∷◌, refl, sym, ap, subst, ◌∙◌, append-nil}
use Rattle.std.specs.Prelude.{replicate}
use Rattle.jet_coalescer.specs.Low.{History, HasHeard, unheard}
use Rattle.jet_link.specs.Meeting.{IsNewSend}
use Rattle.jet_link.specs.Packets.{packed}
use Rattle.jet_wire.specs.Noting.{items_in}
use Rattle.jet_wire.specs.Passing.{histories, begun}
use Rattle.jet_wire.specs.Sender.{SenderView, work_bytes, queue_count, IsUnread, SenderKeeps}

none_heard : (n : ℕ) → histories n (λ q. []) ≡ replicate n unheard
none_heard zero = refl
none_heard (suc n) = ap (λ (hs : List History). unheard ∷ hs) (none_heard n)

pub fresh_keeps : (v : SenderView) → IsUnread v.queues → IsNewSend v.end.shape v.end → HasHeard v.lows (replicate (queue_count v) unheard) → items_in v.hand ≡ begun (queue_count v) → SenderKeeps v [] []
fresh_keeps v u e h hand = record {
  takes_in = record {
    received_each = u.received_each;
    done_each = u.done_each;
    received_is = λ q lt. u.received q;
    done_is = λ q lt. u.done q lt;
    in_order = record { inside = tt; follows = tt };
    heard_is = subst (HasHeard v.lows) (sym (none_heard (queue_count v))) h;
  };
  sends = record {
    packets = ap packed e.pushed;
    written = [];
    work = ap work_bytes e.work;
    fits = tt;
    follows = hand ∙ sym (append-nil (begun (queue_count v)));
  };
}

pub some_begun : (n : ℕ) → (n ≡ 0 → ⊥) → begun n ≡ []
some_begun zero h = absurd (h refl)
some_begun (suc n) h = refl
