use Rattle.std.proofs.Common.{rules, arith, subst, sym, ap, refl, ◌∙◌, ◌≡◌, ◌≤◌, ◌<◌, ◌+◌, ◌%◌, ◌^◌, ◌∷◌, [], length, Option, Some, None, ℕ, List}
use Rattle.std.proofs.lemmas.List.{length-append}
use Rattle.jet_ring.specs.Ring as ring
use Rattle.jet_pool.specs.Pool.{BufValue}
use Rattle.jet_link.specs.Ends.{IsSendEnd, count_of, view_of}
use Rattle.jet_link.specs.Link.{SendState, whole_acked, whole_limit}
use Rattle.jet_link.specs.Sending.{HasBytes}
use Rattle.jet_link.specs.Views.{send_view}
use Rattle.jet_link.proofs.Pushing.{end_pushed, end_still}
use Rattle.jet_link.proofs.Written.{pushed_is}
use Rattle.jet_link.proofs.RecvEnds.{sent_ok}
use Rattle.jet_link.proofs.send_end.SendEnd.push.Goals as goal

pub new-requires : goal.new-requires
new-requires c =
    let work : c.args.self.now.work ≡ Some c.in-Some.buf = sym c.take.ensures.value ∙ c.in-Some.is in
    let some : 0 < length c.in-Some.buf.bytes = subst HasBytes work c.requires in
    let room = c.args.self.now.right.work_room c.in-Some.buf work in
    record { size = (omega (arith, some), omega (arith, room, c.bytes.ensures.most, c.args.self.now.right.shape.packet.1)); spelled = c.args.self.now.right.spelled c.in-Some.buf work }

pub invariant_of-self-2 : goal.invariant_of-self-2
invariant_of-self-2 c =
    let me = c.args.self.now in
    let p = c.new.result in
    let work : me.work ≡ Some p.buf = sym c.take.ensures.value ∙ c.in-Some.is ∙ ap (λ (b : BufValue). Some b) (sym c.new.ensures) in
    let e : IsSendEnd me.shape me.counts me.stock (Some p.buf) me.packets me.acks me.outstanding =
    subst (λ (w : Option BufValue). IsSendEnd me.shape me.counts me.stock w me.packets me.acks me.outstanding) work me.right in
    let got = sent_ok c.offer.result c.offer.ensures.cause c.offer.ensures.sent (search rules) in
    let most : length p.buf.bytes ≤ p.buf.room = subst (λ (b : BufValue). length b.bytes ≤ b.room) (sym c.new.ensures) c.bytes.ensures.most in
    let r = end_pushed me.shape me.counts me.stock me.packets c.offer.new.self me.acks me.outstanding p e got most in
    let r2 = subst (λ (w : Option BufValue). IsSendEnd me.shape (record me.counts { sent = (me.counts.sent + length p.buf.bytes) % 2 ^ 64 }) me.stock w c.offer.new.self me.acks (me.outstanding + 1)) (sym c.take.ensures.after) r in
    let size : p.buf.bytes ≡ c.bytes.result.now = ap (λ (b : BufValue). b.bytes) c.new.ensures ∙ sym c.bytes.ensures.bytes in
    record { right = subst (λ (b : List ℕ). IsSendEnd me.shape (record me.counts { sent = (me.counts.sent + length b) % 2 ^ 64 }) me.stock c.take.new.self c.offer.new.self me.acks (me.outstanding + 1)) size r2 }

pub returns-clause-full : goal.returns-clause-full
returns-clause-full c = λ f.
    let z : ring.known_free c.args.self.now.packets ≡ 0 = c.offer.ensures.cause.0 (search (rules, c.is_ok.ensures, f)) in
    absurd (omega (arith, z, c.free.ensures))

pub returns-clause-pushed : goal.returns-clause-pushed
returns-clause-pushed c = λ f.
    let me = c.args.self.now in
    let p = c.new.result in
    let work : me.work ≡ Some p.buf = sym c.take.ensures.value ∙ c.in-Some.is ∙ ap (λ (b : BufValue). Some b) (sym c.new.ensures) in
    let got = sent_ok c.offer.result c.offer.ensures.cause c.offer.ensures.sent (search rules) in
    let size : p.buf.bytes ≡ c.bytes.result.now = ap (λ (b : BufValue). b.bytes) c.new.ensures ∙ sym c.bytes.ensures.bytes in
    record {
      packet = p;
      was = work;
      slot = omega (arith, c.offer.ensures.reach, ap length got, length-append (ring.sent me.packets) (p ∷ []));
      is = pushed_is (send_view me) c.take.new.self (ring.tx_view c.offer.new.self) p c.bytes.result.now c.take.ensures.after c.offer.ensures.ring got size;
    }

pub returns-clause-packs : goal.returns-clause-packs
returns-clause-packs c =
    let me = c.args.self.now in
    let p = c.new.result in
    let work : me.work ≡ Some p.buf = sym c.take.ensures.value ∙ c.in-Some.is ∙ ap (λ (b : BufValue). Some b) (sym c.new.ensures) in
    let e : IsSendEnd me.shape me.counts me.stock (Some p.buf) me.packets me.acks me.outstanding = subst (λ (w : Option BufValue). IsSendEnd me.shape me.counts me.stock w me.packets me.acks me.outstanding) work me.right in
    let got = sent_ok c.offer.result c.offer.ensures.cause c.offer.ensures.sent (search rules) in
    let most : length p.buf.bytes ≤ p.buf.room = subst (λ (b : BufValue). length b.bytes ≤ b.room) (sym c.new.ensures) c.bytes.ensures.most in
    let size : p.buf.bytes ≡ c.bytes.result.now = ap (λ (b : BufValue). b.bytes) c.new.ensures ∙ sym c.bytes.ensures.bytes in
    let still = end_still me.shape me.counts me.stock me.packets c.offer.new.self me.acks me.outstanding p e got most in
    let now : List ℕ → SendState = λ bytes. view_of (record me.counts { sent = (me.counts.sent + length bytes) % 2 ^ 64 }) me.stock None c.offer.new.self me.acks in
    let was : SendState = view_of me.counts me.stock (Some p.buf) me.packets me.acks in
    record {
      same = record { shape = refl; packets = c.offer.ensures.ring; acks = refl };
      acks = refl;
      sent = (p ∷ [], sym got);
      reach = c.offer.ensures.reach;
      buffers = omega (arith, ap count_of c.take.ensures.after, ap count_of work, ap length got, length-append (ring.sent me.packets) (p ∷ []));
      acked = refl;
      limit = refl;
      all_acked = subst (λ (bytes : List ℕ). whole_acked (now bytes) ≡ whole_acked was) size still.0;
      all_allowed = subst (λ (bytes : List ℕ). whole_limit (now bytes) ≡ whole_limit was) size still.1;
    }
