-- What a frame vertex knows of time.
use Rattle.std.specs.Prelude.{◌≡◌, ℤ, Option, Some, None}
use Rattle.std.specs.Int.{int_max}
use Rattle.jet_items.specs.Grid.{IsMultiple, floor_to}
use Rattle.jet_items.specs.Ranges.{IsWithin, most_frame_end}
use Rattle.jet_policy.specs.Policy.{PolicyValue, IsPolicy}

-- its policy, the mark that it began with, and the last that it took
pub record TimesValue : Type 0 where
  pub policy : PolicyValue
  pub begun : Option ℤ
  pub last : Option ℤ

-- events below this are late: the greater of the slide's floors of the marks
abbrev pub late_floor : ℤ → Option ℤ → Option ℤ → Option ℤ
late_floor slide None None = None
late_floor slide None (Some w) = Some (floor_to slide w)
late_floor slide (Some b) None = Some (floor_to slide b)
late_floor slide (Some b) (Some w) = Some (int_max (floor_to slide b) (floor_to slide w))

-- the policy is one, the floor is that of the marks, and the frame that was seen last ends at a multiple of the slide
pub record KnowsTimes (policy : PolicyValue) (begun last floor : Option ℤ) (recent : ℤ) : Type 0 where
  pub policy_is : IsPolicy policy.size policy.slide
  pub floor_is : floor ≡ late_floor policy.slide begun last
  pub multiple : IsMultiple policy.slide recent
  pub range : IsWithin most_frame_end recent
