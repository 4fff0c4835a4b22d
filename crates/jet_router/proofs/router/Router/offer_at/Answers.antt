use Rattle.std.proofs.Common.{◌≡◌, ◌<◌, ◌++◌, [], ◌∷◌, ℕ, ◌+◌, List, length, refl, sym, ◌∙◌, ap, arith, length-append}
use Rattle.std.proofs.lemmas.List.{length-map}
use Rattle.jet_ring.specs.Ring as ring
use Rattle.jet_router.specs.declared.dest.Dest.{Dest}
use Rattle.jet_router.specs.Dest.{dest_view}
use Rattle.jet_router.proofs.Offers.{parts-set, parts_kept, at-parts, same_dest, dests_kept}
use Rattle.jet_router.proofs.router.Router.offer_at.Goals as goal

pub returns-clause-sent : goal.returns-clause-sent
returns-clause-sent c t =
    let xs : List Dest = c.args.self.now.dests.items in
    let d : ℕ = c.args.dest in
    let was : Dest = c.index_mut.result.now in
    let now : Dest = record { tx = c.put.new.self; had = was.had } in
    let at = c.index_mut.ensures.value in
    let offered = c.put.ensures in
    let long = length-map xs dest_view in
    let lt : d < length xs = omega (arith, long, c.requires) in
    let free = at-parts (λ v. v.free) xs d was 0 lt at in
    let grown = ap length (offered.sent c.if-not-put.false) ∙ length-append (ring.sent was.tx) (c.args.item.now ∷ []) in
    let less : ring.known_free was.tx ≡ ring.known_free now.tx + 1 = omega (arith, offered.reach, grown) in
    record {
      inside = c.requires;
      room = omega (arith, free, less);
      sent = parts-set (λ v. v.sent) xs d now _ (offered.sent c.if-not-put.false ∙ ap (λ w. w ++ c.args.item.now ∷ []) (sym (at-parts (λ v. v.sent) xs d was [] lt at)));
      free = parts-set (λ v. v.free) xs d now _ (omega (arith, free, less));
      busy = refl;
      turn = refl;
    }

pub returns-clause-same : goal.returns-clause-same
returns-clause-same c =
    let was : Dest = c.index_mut.result.now in
    let now : Dest = record { tx = c.put.new.self; had = was.had } in
    record {
      route = refl;
      table = refl;
      rings_kept = parts_kept (λ v. v.ring) c.args.self.now.dests.items c.args.dest was now c.index_mut.ensures.value c.put.ensures.ring;
    }

pub returns-clause-reach : goal.returns-clause-reach
returns-clause-reach c =
    let was : Dest = c.index_mut.result.now in
    let now : Dest = record { tx = c.put.new.self; had = was.had } in
    parts_kept (λ v. length v.sent + v.free) c.args.self.now.dests.items c.args.dest was now c.index_mut.ensures.value c.put.ensures.reach

pub returns-then-not-put-clause-same : goal.returns-then-not-put-clause-same
returns-then-not-put-clause-same c =
    let was : Dest = c.index_mut.result.now in
    let now : Dest = record { tx = c.put.new.self; had = was.had } in
    record {
      route = refl;
      table = refl;
      rings_kept = parts_kept (λ v. v.ring) c.args.self.now.dests.items c.args.dest was now c.index_mut.ensures.value c.put.ensures.ring;
    }

pub returns-then-not-put-clause-reach : goal.returns-then-not-put-clause-reach
returns-then-not-put-clause-reach c =
    let was : Dest = c.index_mut.result.now in
    let now : Dest = record { tx = c.put.new.self; had = was.had } in
    parts_kept (λ v. length v.sent + v.free) c.args.self.now.dests.items c.args.dest was now c.index_mut.ensures.value c.put.ensures.reach

pub returns-then-not-put-clause-full : goal.returns-then-not-put-clause-full
returns-then-not-put-clause-full c t =
    let xs : List Dest = c.args.self.now.dests.items in
    let d : ℕ = c.args.dest in
    let was : Dest = c.index_mut.result.now in
    let now : Dest = record { tx = c.put.new.self; had = was.had } in
    let at = c.index_mut.ensures.value in
    let offered = c.put.ensures in
    let long = length-map xs dest_view in
    let lt : d < length xs = omega (arith, long, c.requires) in
    let none : ring.known_free was.tx ≡ 0 = offered.cause.0 c.if-not-put.true in
    let kept : c.put.new.self ≡ was.tx = offered.kept c.if-not-put.true in (
      ap (λ w. record { route = c.args.self.now.route; table = c.args.self.now.table.items; dests = w; busy = c.args.self.now.busy; turn = c.args.self.now.turn })
          (dests_kept xs d was now at (ap (λ e. dest_view (record { tx = e; had = was.had })) kept)),
      at-parts (λ v. v.free) xs d was 0 lt at ∙ none,
    )
