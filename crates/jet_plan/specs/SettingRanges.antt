-- The ranges of settings, lags and window sizes.
use Rattle.std.specs.Prelude.{ℕ, ℤ, pos, int_le, Bool, false, not, ◌&&◌, List, [], ◌∷◌, map, Option, None, option_map}
use Rattle.std.specs.List.{enumerate_from}
use Rattle.std.specs.Option.{option_or}
use Rattle.jet_items.specs.Ranges.{most_time}
use Rattle.jet_policy.specs.declared.policy.PolicyFault.{PolicyFault}
use Rattle.jet_policy.specs.PolicyCause.{policy_fault}
use Rattle.jet_plan.specs.declared.kind.Kind.{Kind}
use Rattle.jet_plan.specs.declared.kind.Kind.TheVariants.{Source, Accumulate}
use Rattle.jet_plan.specs.declared.vertex.Vertex.{Vertex}
use Rattle.jet_plan.specs.declared.settings.Settings.{Settings}
use Rattle.jet_plan.specs.declared.setting_name.SettingName.{SettingName}
use Rattle.jet_plan.specs.declared.setting_name.SettingName.TheVariants.{Workers, Members, Ring, Packet, Window, Turns, Ahead, Lines, Peak, Multiplier, Period}
use Rattle.jet_plan.specs.First.{first_of, where_true}

abbrev pub is_between : ℕ → ℕ → ℤ → Bool
is_between least most z = int_le (pos least) z && int_le z (pos most)

-- the settings of workers, members, rings and packets that are out of their ranges
abbrev pub size_settings : Settings → List (Option SettingName)
size_settings s = where_true (not (is_between 1 8 s.workers)) Workers
    ∷ where_true (not (is_between 1 4 s.members)) Members
    ∷ where_true (not (is_between 2 65536 s.ring)) Ring
    ∷ where_true (not (is_between 256 65536 s.packet)) Packet
    ∷ []

abbrev pub wrong_size : Settings → Option SettingName
wrong_size s = first_of (size_settings s)

-- the others that are
abbrev pub limit_settings : Settings → List (Option SettingName)
limit_settings s = where_true (not (is_between 1 16777216 s.window)) Window
    ∷ where_true (not (is_between 1 1024 s.turns)) Turns
    ∷ where_true (not (is_between 0 most_time s.ahead)) Ahead
    ∷ where_true (not (is_between 1 4294967294 s.lines)) Lines
    ∷ []

abbrev pub wrong_limit : Settings → Option SettingName
wrong_limit s = first_of (limit_settings s)

-- those of what a link grants: the most is at least the least
abbrev pub grant_settings : Settings → List (Option SettingName)
grant_settings s = where_true (not (int_le s.window s.peak && int_le s.peak (pos 16777216))) Peak
    ∷ where_true (not (is_between 1 16 s.multiplier)) Multiplier
    ∷ where_true (not (is_between 1 1024 s.period)) Period
    ∷ []

abbrev pub wrong_grant : Settings → Option SettingName
wrong_grant s = first_of (grant_settings s)

-- the first setting that is out of its range
abbrev pub wrong_setting : Settings → Option SettingName
wrong_setting s = option_or (wrong_size s) (option_or (wrong_limit s) (wrong_grant s))

-- a lag outside 0 to 10 ^ 15
abbrev pub has_wrong_lag : Kind → Bool
has_wrong_lag (Source files lag) = not (is_between 0 most_time lag)
has_wrong_lag _ = false

-- why the sizes of an accumulate vertex are refused
abbrev pub wrong_sizes : Kind → Option PolicyFault
wrong_sizes (Accumulate size slide) = policy_fault size slide
wrong_sizes _ = None

-- the first accumulate vertex whose sizes are refused, by its number, and why; vertices are numbered from n on
abbrev pub wrong_sizes_from : ℕ → List Vertex → Option (ℕ × PolicyFault)
wrong_sizes_from n vertices = first_of (map (λ p. option_map (λ why. (p.0, why)) (wrong_sizes p.1.kind)) (enumerate_from n vertices))
