use Rattle.std.proofs.Common.{◌≡◌, true, false, ◌++◌, ◌∷◌, [], refl, sym, ◌∙◌, ap, subst}
use Rattle.std.specs.Prelude.{Result, Ok, Err, OnOk, OnErr, is_err}
use Rattle.jet_items.specs.declared.item.Item.TheVariants as item
use Rattle.jet_boxes.specs.Held.{BoxView}
use Rattle.jet_tasklet.specs.Keeps.{Stays}
use Rattle.jet_tasklet.proofs.Keeping.{done_keeps, stays_refl}
use Rattle.jet_tasklet.proofs.Lasting.{turned_still}
use Rattle.jet_tasklet.proofs.tasklet.Tasklet.put_done.Goals as goal

on_ok : {A B : Type 0} (r : Result A B) (P : Type 0) → is_err r ≡ false → OnOk r P → P
on_ok (Ok x) P e h = h
on_ok (Err x) P e h = absurd (cc)

pub returns-clause-keeps : goal.returns-clause-keeps
returns-clause-keeps g c = record {
  stays = λ came gave k.
      let fine : is_err c.offer.result ≡ false = sym c.is_err.ensures.value ∙ c.if-is_err.false in
      let put : c.offer.new.self ≡ record { room = c.args.self.now.outbox.room; items = c.args.self.now.outbox.items ++ item.Done ∷ [] } = on_ok c.offer.result (c.offer.new.self ≡ record { room = c.args.self.now.outbox.room; items = c.args.self.now.outbox.items ++ item.Done ∷ [] }) fine c.offer.ensures.put in
      done_keeps g.P.Processor.stands g.P.Processor.amid g.P.Processor.takes g.met.P.Processor.begins c.args.self.now c.offer.new.self came gave c.requires.finished put k;
}

on_err : {A B : Type 0} (r : Result A B) (P : Type 0) → is_err r ≡ true → OnErr r P → P
on_err (Ok x) P e h = absurd (cc)
on_err (Err x) P e h = h

pub returns-then-is_err-clause-keeps : goal.returns-then-is_err-clause-keeps
returns-then-is_err-clause-keeps g c =
    let failed : is_err c.offer.result ≡ true = sym c.is_err.ensures.value ∙ c.if-is_err.true in
    let kept : c.offer.new.self ≡ c.args.self.now.outbox = on_err c.offer.result (c.offer.new.self ≡ c.args.self.now.outbox) failed c.offer.ensures.kept in
    subst (λ (o : BoxView). Stays g.P.Processor.stands g.P.Processor.amid g.P.Processor.takes c.args.self.now (record { processor = c.args.self.now.processor; inputs = c.args.self.now.inputs; next = c.args.self.now.next; outputs = c.args.self.now.outputs; coalescer = c.args.self.now.coalescer; step = c.args.self.now.step; outbox = o })) (sym kept) (stays_refl g.P.Processor.stands g.P.Processor.amid g.P.Processor.takes c.args.self.now)

pub returns-clause-turned : goal.returns-clause-turned
returns-clause-turned g c =
    let fine : is_err c.offer.result ≡ false = sym c.is_err.ensures.value ∙ c.if-is_err.false in
    let put : c.offer.new.self ≡ record { room = c.args.self.now.outbox.room; items = c.args.self.now.outbox.items ++ item.Done ∷ [] } = on_ok c.offer.result (c.offer.new.self ≡ record { room = c.args.self.now.outbox.room; items = c.args.self.now.outbox.items ++ item.Done ∷ [] }) fine c.offer.ensures.put in
    turned_still g.P.Processor.same c.args.self.now _ (g.met.P.Processor.same_refl c.args.self.now.processor) (ap (λ (h : BoxView). h.room) put) refl refl

pub returns-then-is_err-clause-turned : goal.returns-then-is_err-clause-turned
returns-then-is_err-clause-turned g c =
    let failed : is_err c.offer.result ≡ true = sym c.is_err.ensures.value ∙ c.if-is_err.true in
    let kept : c.offer.new.self ≡ c.args.self.now.outbox = on_err c.offer.result (c.offer.new.self ≡ c.args.self.now.outbox) failed c.offer.ensures.kept in
    turned_still g.P.Processor.same c.args.self.now _ (g.met.P.Processor.same_refl c.args.self.now.processor) (ap (λ (h : BoxView). h.room) kept) refl refl
