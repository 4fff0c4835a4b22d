use Rattle.std.proofs.Common.{arith, ◌≡◌, ℤ, ◌-ℤ◌, ◌≤ℤ◌, ◌<ℤ◌, Option, Some, IfSome, ap, sym, subst, ◌∙◌, to_z-of_z, w64, FitsSigned}
use Rattle.std.specs.List.{reduce}
use Rattle.std.specs.Int.{int_max}
use Rattle.std.proofs.lemmas.Int.{ints}
use Rattle.jet_items.specs.Grid.{floor_to}
use Rattle.jet_items.specs.Marks.{mark_at}
use Rattle.jet_items.specs.Ranges.{IsWithin, most_time}
use Rattle.jet_policy.proofs.Greatest.{greatest_push}
use Rattle.jet_policy.proofs.Rising.{stored, rise_stays, not_raised, greatest_rises, is_raised, told_of, greatest_within}
use Rattle.jet_policy.specs.MarkerValue.{MarkerValue, IsRaised, greatest_with, rise_at}
use Rattle.jet_policy.proofs.marker.Marker.see.Goals as goal

-- where the mark stays
pub invariant_of-self : goal.invariant_of-self
invariant_of-self c =
    let m = c.self.inside in
    let fits : FitsSigned w64 c.greater.result = record { sfits = c.greater.type_inv } in
    let fits_ts : FitsSigned w64 c.args.ts = c.ranges.ts in
    let greater : Some c.greater.result ≡ greatest_with m.greatest c.args.ts = simp to_z-of_z at c.greater.ensures in
    let new = stored c.greater.result c.args.ts m.greatest fits greater in
    let marker = c.self.invariant.0 in
    let below : c.args.ts <ℤ m.rise = omega (arith, ints) in (
      record {
        lag_low = marker.lag_low;
        lag_high = marker.lag_high;
        grain_low = marker.grain_low;
        grain_high = marker.grain_high;
        time = subst (λ (o : Option ℤ). IfSome o (IsWithin most_time)) (sym new) (greatest_within m.greatest c.args.ts marker.time c.requires);
      },
      c.self.invariant.1
          ∙ sym (rise_stays m.lag m.grain c.args.ts marker.grain_low c.requires m.greatest (subst (λ (r : ℤ). c.args.ts <ℤ r) c.self.invariant.1 below))
          ∙ ap (rise_at m.lag m.grain) (sym new),
    )

pub returns-then-ts-self-clause-seen : goal.returns-then-ts-self-clause-seen
returns-then-ts-self-clause-seen c = λ times seen.
    let fits : FitsSigned w64 c.greater.result = record { sfits = c.greater.type_inv } in
    let fits_ts : FitsSigned w64 c.args.ts = c.ranges.ts in
    let greater : Some c.greater.result ≡ greatest_with c.self.inside.greatest c.args.ts = simp to_z-of_z at c.greater.ensures in
    let before : c.self.inside.greatest ≡ reduce int_max times = ap (λ (m : MarkerValue). m.greatest) c.self.view_is ∙ seen in
    stored c.greater.result c.args.ts c.self.inside.greatest fits greater ∙ ap (λ (o : Option ℤ). greatest_with o c.args.ts) before ∙ sym (greatest_push times c.args.ts)

pub returns-then-ts-self-clause-raised : goal.returns-then-ts-self-clause-raised
returns-then-ts-self-clause-raised c = λ times seen.
    let m = c.self.inside in
    let below : c.args.ts <ℤ m.rise = omega (arith, ints) in
    told_of c.args.ts times _ (ap (λ (v : MarkerValue). v.lag) c.self.view_is) (ap (λ (v : MarkerValue). v.grain) c.self.view_is) (ap (λ (v : MarkerValue). v.greatest) c.self.view_is ∙ seen)
    (not_raised m.lag m.grain c.args.ts c.self.invariant.0.grain_low c.requires m.greatest (subst (λ (r : ℤ). c.args.ts <ℤ r) c.self.invariant.1 below))

-- where it rises
pub returns-clause-seen : goal.returns-clause-seen
returns-clause-seen c = λ times seen.
    let m = c.self.inside in
    let fits_ts : FitsSigned w64 c.args.ts = c.ranges.ts in
    let before : m.greatest ≡ reduce int_max times = ap (λ (v : MarkerValue). v.greatest) c.self.view_is ∙ seen in
    let above : m.rise ≤ℤ c.args.ts = omega (arith, ints) in
    ap Some (to_z-of_z fits_ts)
    ∙ sym (greatest_rises m.lag m.grain c.args.ts c.self.invariant.0.grain_low c.requires m.greatest (subst (λ (r : ℤ). r ≤ℤ c.args.ts) c.self.invariant.1 above))
    ∙ ap (λ (o : Option ℤ). greatest_with o c.args.ts) before ∙ sym (greatest_push times c.args.ts)

pub returns-clause-raised : goal.returns-clause-raised
returns-clause-raised c = λ times seen.
    let m = c.self.inside in
    let marker = c.self.invariant.0 in
    let fits_ts : FitsSigned w64 c.args.ts = c.ranges.ts in
    let fits_lag : FitsSigned w64 m.lag = omega (arith, ints, marker.lag_low, marker.lag_high) in
    let fits_grain : FitsSigned w64 m.grain = omega (arith, ints, marker.grain_low, marker.grain_high) in
    let is : c.mark_below-mark.result ≡ floor_to m.grain (c.args.ts -ℤ m.lag) = simp to_z-of_z at c.mark_below-mark.ensures in
    let above : m.rise ≤ℤ c.args.ts = omega (arith, ints) in
    told_of c.args.ts times _ (ap (λ (v : MarkerValue). v.lag) c.self.view_is) (ap (λ (v : MarkerValue). v.grain) c.self.view_is) (ap (λ (v : MarkerValue). v.greatest) c.self.view_is ∙ seen)
    (subst (λ (t : ℤ). IsRaised (mark_at m.lag m.grain m.greatest) (mark_at m.lag m.grain (greatest_with m.greatest c.args.ts)) (Some t)) (sym is)
    (is_raised m.lag m.grain c.args.ts marker.grain_low c.requires m.greatest (subst (λ (r : ℤ). r ≤ℤ c.args.ts) c.self.invariant.1 above)))
