use Rattle.std.proofs.Common.{rules, ◌≡◌, ◌++◌, [], ◌∷◌, ℤ, ℕ, List, Bool, pos, sym, ◌∙◌, subst, ap, refl, w64, to_z-of_z, FitsSigned}
use Rattle.jet_items.specs.Marks.{is_behind}
use Rattle.jet_items.specs.Values.{EventValue}
use Rattle.jet_policy.specs.MarkerValue.{MarkerValue, HasSeen}
use Rattle.jet_file.specs.Text.{late_line}
use Rattle.jet_cli.specs.inner.Advance.{Advanced}
use Rattle.jet_cli.specs.inner.Took.{mark_in, is_below}
use Rattle.jet_cli.proofs.TookLemmas.{counts_more, below_is_behind, notes_more, lines_more}
use Rattle.jet_cli.proofs.counter.WindowCounter.take.Goals as goal

pub returns-clause-took : goal.returns-clause-took
returns-clause-took c = λ command events table counts prints before.
    let old = c.args.self.now in
    let mid = c.admit.new.self in
    let new = c.advance.new.self in
    let e : EventValue = c.args.event in
    let fits : FitsSigned w64 c.event.inside.ts = search rules in
    let time : c.event.inside.ts ≡ e.ts = ap (λ (x : EventValue). x.ts) c.event.view_is in
    let marker : mid.marker ≡ old.marker = c.in_ok-admit.ensures.marker in
    let seen : (times : List ℤ) → HasSeen old.marker times → HasSeen new.marker (times ++ e.ts ∷ []) =
    λ times h. subst (λ (t : ℤ). HasSeen new.marker (times ++ t ∷ [])) time
    ((simp to_z-of_z at c.in_ok-advance.ensures.seen) times (subst (λ (m : MarkerValue). HasSeen m times) (sym marker) h)) in
    let adv : Advanced mid new = c.in_ok-advance.ensures.advanced in
    let b : Bool = is_behind (pos command.lag) (pos command.slide) events e in
    let below : is_below (mark_in old.marker) e.ts ≡ b = below_is_behind command events e table old.marker old.window counts before in
    let counted = counts_more command events e table adv.given old.marker new.marker old.window mid.window new.window counts before
    (λ is. (c.in_ok-admit.ensures.late is).0) (λ is. let k = c.in_ok-admit.ensures.kept is in (k.0, k.2))
    seen
    (c.in_ok-advance.ensures.lag ∙ ap (λ (m : MarkerValue). m.lag) marker) (c.in_ok-advance.ensures.grain ∙ ap (λ (m : MarkerValue). m.grain) marker)
    c.in_ok-advance.ensures.vertex c.in_ok-advance.ensures.window_size c.in_ok-advance.ensures.slide
    c.in_ok-advance.ensures.in_step adv.goes_on adv.taken in
    record {
      given = adv.given;
      counts = counted.0;
      closes = counted.1;
      rows = lines_more old.rows.items mid.rows.items new.rows.items mid.name mid.size (pos command.size) adv.given adv.rows
          (ap (λ v. v.items) c.in_ok-admit.ensures.rows) (c.in_ok-admit.ensures.name ∙ prints.name) (c.in_ok-admit.ensures.size ∙ prints.size);
      notes = ap (λ v. v.items) c.in_ok-advance.ensures.notes
          ∙ notes_more command events e old.notes.items mid.notes.items b (is_below (mark_in old.marker) e.ts) below refl
          (λ is. (c.in_ok-admit.ensures.late is).1 ∙ ap (λ (n : List ℕ). old.notes.items ++ late_line n e) prints.name)
          (λ is. ap (λ v. v.items) (c.in_ok-admit.ensures.kept is).1);
    }
