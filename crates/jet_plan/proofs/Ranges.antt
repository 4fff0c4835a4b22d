-- The numbers of a valid job are in their ranges.
use Rattle.std.proofs.Common.{◌≡◌, ◌≤◌, ℕ, ℤ, pos, List, Bool, true, false, not, None, nat_le, unsigned_abs, sym}
use Rattle.std.specs.Prelude.{◌&&◌, ◌++◌, int_le, negsuc}
use Rattle.std.specs.List.{list_any, Contains}
use Rattle.jet_plan.specs.declared.dag.Dag.{Dag}
use Rattle.jet_plan.specs.declared.vertex.Vertex.{Vertex}
use Rattle.jet_plan.specs.declared.settings.Settings.{Settings}
use Rattle.jet_plan.specs.declared.many.Many.TheVariants.{Instances}
use Rattle.jet_plan.specs.declared.setting_name.SettingName.TheVariants as name
use Rattle.jet_plan.specs.declared.fault.PlanFault.TheVariants.{TooMany, Setting}
use Rattle.jet_plan.specs.First.{first_of, where_true}
use Rattle.jet_plan.specs.Faults.{shape_faults, end_faults, edge_faults, range_faults, large_faults, fault}
use Rattle.jet_plan.specs.Ranges.{IsBetween, IsRanged}
use Rattle.jet_plan.specs.SettingRanges.{is_between, wrong_setting, wrong_size, wrong_limit, wrong_grant, size_settings, limit_settings, grant_settings}
use Rattle.jet_plan.specs.Sizes.{is_from_1_to_8, sizes, too_many}
use Rattle.jet_plan.proofs.CheckLaws.{none_each, not_mapped, not_true, not_not, option_none, option_second, inside, first_true, second, to_le, group_none, after_edges}
use Rattle.jet_plan.proofs.CycleLaws.{not_any}

-- a setting that is not refused
kept : {X : Type 0} (least most : ℕ) (z : ℤ) (x : X) → where_true (not (is_between least most z)) x ≡ None → IsBetween least most z
kept least most z x h = inside least most z (not_not (is_between least most z) (not_true (not (is_between least most z)) x h))

-- the greatest grant is at least the least one
grants : (window peak : ℤ) → is_between 1 16777216 window ≡ true → (int_le window peak && int_le peak (pos 16777216)) ≡ true → (unsigned_abs window ≤ unsigned_abs peak) × (unsigned_abs peak ≤ 16777216)
grants (pos m) (pos n) one h = (to_le m n (first_true (nat_le m n) (nat_le n 16777216) h), to_le n 16777216 (second (nat_le m n) (nat_le n 16777216) h))
grants (pos m) (negsuc n) one h = absurd (cc h)
grants (negsuc m) peak one h = absurd (cc one)

-- no vertex has too few or too many instances
few : (vertices : List Vertex) → list_any (λ v. not (is_from_1_to_8 v.parallelism)) vertices ≡ false → (v : Vertex) → Contains vertices v → (1 ≤ v.parallelism) × (v.parallelism ≤ 8)
few vertices h v there =
    let fits : is_from_1_to_8 v.parallelism ≡ true = not_not (is_from_1_to_8 v.parallelism) (not_any vertices (λ w. not (is_from_1_to_8 w.parallelism)) h v there) in
    (to_le 1 v.parallelism (first_true (nat_le 1 v.parallelism) (nat_le v.parallelism 8) fits), to_le v.parallelism 8 (second (nat_le 1 v.parallelism) (nat_le v.parallelism 8) fits))

pub ranged : (dag : Dag) (s : Settings) → fault dag s ≡ None → IsRanged dag s
unfolding shape_faults range_faults
ranged dag s h =
    let none = none_each (range_faults dag s) (group_none (range_faults dag s) (large_faults dag s) (after_edges dag s h)).0 in
    let settings = not_mapped Setting (wrong_setting s) none.1.1.0 in
    let sizes_none = none_each (size_settings s) (option_none (wrong_size s) _ settings) in
    let rest = option_second (wrong_size s) _ settings in
    let limits = none_each (limit_settings s) (option_none (wrong_limit s) (wrong_grant s) rest) in
    let grants_none = none_each (grant_settings s) (option_second (wrong_limit s) (wrong_grant s) rest) in
    let shapes = none_each (shape_faults dag) (group_none (shape_faults dag) (end_faults dag ++ (edge_faults dag s ++ (range_faults dag s ++ large_faults dag s))) h).0 in
    let many = none_each (sizes dag) (not_mapped TooMany (too_many dag) shapes.1.0) in
    record {
      workers = kept 1 8 s.workers name.Workers sizes_none.0;
      members = kept 1 4 s.members name.Members sizes_none.1.0;
      ring = kept 2 65536 s.ring name.Ring sizes_none.1.1.0;
      packet = kept 256 65536 s.packet name.Packet sizes_none.1.1.1.0;
      window = kept 1 16777216 s.window name.Window limits.0;
      turns = kept 1 1024 s.turns name.Turns limits.1.0;
      lines = kept 1 4294967294 s.lines name.Lines limits.1.1.1.0;
      peak = grants s.window s.peak (not_not _ (not_true (not (is_between 1 16777216 s.window)) name.Window limits.0)) (not_not _ (not_true (not (int_le s.window s.peak && int_le s.peak (pos 16777216))) name.Peak grants_none.0));
      multiplier = kept 1 16 s.multiplier name.Multiplier grants_none.1.0;
      period = kept 1 1024 s.period name.Period grants_none.1.1.0;
      instances = few dag.vertices (not_true _ Instances many.1.1.1.0);
    }
