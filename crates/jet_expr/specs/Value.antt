-- The value of an expression for an event.
use Rattle.std.specs.Prelude.{ℤ, pos, neg_ℤ, ◌+ℤ◌, ◌-ℤ◌, ◌*ℤ◌, int_lt, int_le, Bool, not, ◌&&◌, ◌||◌, if◌then◌else◌, slice_index_or}
use Rattle.std.specs.Int.{int_min, int_max, int_div_euclid, int_rem_euclid}
use Rattle.std.specs.Ordering.{int_eq}
use Rattle.jet_items.specs.Values.{EventValue}
use Rattle.jet_items.specs.Ranges.{most_time}
use Rattle.jet_expr.specs.Term.{Term, number, read, one, two, choose}
use Rattle.jet_expr.specs.declared.field.Field.{Field}
use Rattle.jet_expr.specs.declared.field.Field.TheVariants.{Ts, Part, V0, V1, V2, V3}
use Rattle.jet_expr.specs.declared.operator.Unary.{Unary}
use Rattle.jet_expr.specs.declared.operator.Unary.TheVariants.{Negate, Absolute, Not}
use Rattle.jet_expr.specs.declared.operator.Operator.{Operator}
use Rattle.jet_expr.specs.declared.operator.Operator.TheVariants.{Add, Subtract, Multiply, Divide, Remainder, Equal, Unequal, Less, AtMost, Greater, AtLeast, And, Or, Least, Greatest}

-- the nearest number from -10 ^ 15 to 10 ^ 15
abbrev pub held : ℤ → ℤ
held z = int_max (neg_ℤ (pos most_time)) (int_min (pos most_time) z)

-- a value other than 0 is true
abbrev pub is_true : ℤ → Bool
is_true z = not (int_eq z (pos 0))

-- truth is 1 and 0
abbrev pub truth : Bool → ℤ
truth b = if b then pos 1 else pos 0

-- the floor of a quotient, and 0 for the divisor 0
abbrev pub floor_quotient : ℤ → ℤ → ℤ
floor_quotient a b =
    if int_eq b (pos 0) then pos 0 else if int_lt b (pos 0) then int_div_euclid (neg_ℤ a) (neg_ℤ b) else int_div_euclid a b

-- what the quotient leaves, and 0 for the divisor 0
abbrev pub floor_remainder : ℤ → ℤ → ℤ
floor_remainder a b =
    if int_eq b (pos 0) then pos 0 else if int_lt b (pos 0) then neg_ℤ (int_rem_euclid (neg_ℤ a) (neg_ℤ b)) else int_rem_euclid a b

abbrev pub field_value : Field → EventValue → ℤ
field_value Ts e = e.ts
field_value Part e = pos e.part
field_value V0 e = slice_index_or e.v 0 (pos 0)
field_value V1 e = slice_index_or e.v 1 (pos 0)
field_value V2 e = slice_index_or e.v 2 (pos 0)
field_value V3 e = slice_index_or e.v 3 (pos 0)

abbrev pub unary_value : Unary → ℤ → ℤ
unary_value Negate a = held (neg_ℤ a)
unary_value Absolute a = held (int_max a (neg_ℤ a))
unary_value Not a = truth (not (is_true a))

abbrev pub operator_value : Operator → ℤ → ℤ → ℤ
operator_value Add a b = held (a +ℤ b)
operator_value Subtract a b = held (a -ℤ b)
operator_value Multiply a b = held (a *ℤ b)
operator_value Divide a b = held (floor_quotient a b)
operator_value Remainder a b = held (floor_remainder a b)
operator_value Equal a b = truth (int_eq a b)
operator_value Unequal a b = truth (not (int_eq a b))
operator_value Less a b = truth (int_lt a b)
operator_value AtMost a b = truth (int_le a b)
operator_value Greater a b = truth (int_lt b a)
operator_value AtLeast a b = truth (int_le b a)
operator_value And a b = truth (is_true a && is_true b)
operator_value Or a b = truth (is_true a || is_true b)
operator_value Least a b = int_min a b
operator_value Greatest a b = int_max a b

abbrev pub value : Term → EventValue → ℤ
value (number z) e = z
value (read f) e = field_value f e
value (one op a) e = unary_value op (value a e)
value (two op a b) e = operator_value op (value a e) (value b e)
value (choose c a b) e = if is_true (value c e) then value a e else value b e
