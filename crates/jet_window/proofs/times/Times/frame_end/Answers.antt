use Rattle.std.proofs.Common.{rules, arith, ◌≡◌, sym, subst, ℤ, ◌-ℤ◌, ◌<ℤ◌, ◌≤ℤ◌, FitsSigned, to_z-of_z, w64}
use Rattle.std.proofs.lemmas.Int.{ints}
use Rattle.jet_items.specs.Frames.{frame_end}
use Rattle.jet_items.specs.Ranges.{IsWithin, most_frame_end}
use Rattle.jet_window.proofs.Timing.{recent_end, end_range}
use Rattle.jet_window.proofs.times.Times.frame_end.Goals as goal

pub returns-then-self-slide-clause-value : goal.returns-then-self-slide-clause-value
returns-then-self-slide-clause-value c =
    let fits_ts : FitsSigned w64 c.args.ts = c.ranges.ts in
    let fits_recent : FitsSigned w64 c.self.inside.recent = search rules in
    let fits_slide : FitsSigned w64 c.slide.result = record { sfits = c.slide.type_inv } in
    let slide : ℤ = c.self.inside.policy.slide in
    let is : c.slide.result ≡ slide = c.slide.ensures.value in
    let r = c.self.invariant.range in
    let low_r = r.0 in
    let high_r = r.1 in
    let policy = c.slide.ensures.policy in
    let above : c.args.ts <ℤ c.self.inside.recent = omega (arith, ints) in
    let within : (c.self.inside.recent -ℤ slide) ≤ℤ c.args.ts = omega (arith, ints) in
    let value : c.self.inside.recent ≡ frame_end slide c.args.ts = recent_end slide c.self.inside.recent c.args.ts policy.slide_low c.self.invariant.multiple above within in
    simp to_z-of_z (rw (← c.self.view_is) value)

pub invariant_of-self : goal.invariant_of-self
invariant_of-self c =
    let fits_end : FitsSigned w64 c.frame_end-self-inside.result = record { sfits = c.frame_end-self-inside.type_inv } in
    let fits_ts : FitsSigned w64 c.args.ts = c.ranges.ts in
    let value : c.frame_end-self-inside.result ≡ frame_end c.self.inside.policy.slide c.args.ts = simp to_z-of_z at c.frame_end-self-inside.ensures.value in
    let p = c.frame_end-self-inside.ensures.policy in
    simp to_z-of_z (record {
      policy_is = c.self.invariant.policy_is;
      floor_is = c.self.invariant.floor_is;
      multiple = c.frame_end-self-inside.ensures.least.multiple;
      range = subst (IsWithin most_frame_end) (sym value) (end_range c.self.inside.policy.slide c.args.ts p.slide_low p.slide_high c.requires);
    })

pub returns-clause-range : goal.returns-clause-range
returns-clause-range c =
    let fits_end : FitsSigned w64 c.frame_end-self-inside.result = record { sfits = c.frame_end-self-inside.type_inv } in
    let fits_ts : FitsSigned w64 c.args.ts = c.ranges.ts in
    let value : c.frame_end-self-inside.result ≡ frame_end c.self.inside.policy.slide c.args.ts = simp to_z-of_z at c.frame_end-self-inside.ensures.value in
    let p = c.frame_end-self-inside.ensures.policy in
    simp to_z-of_z (subst (IsWithin most_frame_end) (sym value) (end_range c.self.inside.policy.slide c.args.ts p.slide_low p.slide_high c.requires))
