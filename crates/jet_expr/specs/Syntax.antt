-- The grammar of expressions: trees, which of them are formed, and how each is spelled in tokens.
use Rattle.std.specs.Prelude.{ℕ, suc, ◌≤◌, pos, Bool, true, false, List, [], ◌∷◌, ◌++◌, if◌then◌else◌}
use Rattle.jet_items.specs.Ranges.{most_time}
use Rattle.jet_expr.specs.Term.{Term}
use Rattle.jet_expr.specs.Term as term
use Rattle.jet_expr.specs.declared.field.Field.{Field}
use Rattle.jet_expr.specs.declared.operator.Unary.{Unary}
use Rattle.jet_expr.specs.declared.operator.Unary.TheVariants.{Negate, Not, Absolute}
use Rattle.jet_expr.specs.declared.operator.Operator.{Operator}
use Rattle.jet_expr.specs.declared.operator.Operator.TheVariants.{Add, Subtract, Multiply, Divide, Remainder, Equal, Unequal, Less, AtMost, Greater, AtLeast, And, Or, Least, Greatest}
use Rattle.jet_expr.specs.declared.token.Token.{Token}
use Rattle.jet_expr.specs.declared.token.Token.TheVariants as token

-- a term, with the groups in parentheses that its text has
pub data Syntax : Type 0 where
  number : ℕ → Syntax
  read : Field → Syntax
  group : Syntax → Syntax
  one : Unary → Syntax → Syntax
  two : Operator → Syntax → Syntax → Syntax
  choose : Syntax → Syntax → Syntax → Syntax

-- groups serve for the form alone
abbrev pub meaning : Syntax → Term
meaning (number n) = term.number (pos n)
meaning (read f) = term.read f
meaning (group a) = meaning a
meaning (one op a) = term.one op (meaning a)
meaning (two op a b) = term.two op (meaning a) (meaning b)
meaning (choose c a b) = term.choose (meaning c) (meaning a) (meaning b)

-- `min` and `max` stand before their operands, all other operators between them
abbrev pub is_infix : Operator → Bool
is_infix Least = false
is_infix Greatest = false
is_infix op = true

-- The levels, from the loosest: `or` 0, `and` 1, `not` 2, comparisons 3, sums 4, products 5, minus signs 6, and 7 for
-- numbers, fields, groups and calls.
abbrev pub level_of : Operator → ℕ
level_of Or = 0
level_of And = 1
level_of Equal = 3
level_of Unequal = 3
level_of Less = 3
level_of AtMost = 3
level_of Greater = 3
level_of AtLeast = 3
level_of Add = 4
level_of Subtract = 4
level_of Multiply = 5
level_of Divide = 5
level_of Remainder = 5
level_of Least = 7
level_of Greatest = 7

abbrev pub unary_level : Unary → ℕ
unary_level Not = 2
unary_level Negate = 6
unary_level Absolute = 7

abbrev pub is_comparison : Operator → Bool
is_comparison Equal = true
is_comparison Unequal = true
is_comparison Less = true
is_comparison AtMost = true
is_comparison Greater = true
is_comparison AtLeast = true
is_comparison op = false

-- The least level of an operand on the left: the operator's own, so that it groups from the left. But a comparison has
-- none for an operand, and an argument of a call may have any.
abbrev pub left_least : Operator → ℕ
left_least Least = 0
left_least Greatest = 0
left_least op = if is_comparison op then suc (level_of op) else level_of op

-- the same on the right: one more than the operator's own
abbrev pub right_least : Operator → ℕ
right_least Least = 0
right_least Greatest = 0
right_least op = suc (level_of op)

-- the same of the operand of `not`, of a minus sign and of `abs`
abbrev pub operand_least : Unary → ℕ
operand_least Not = 2
operand_least Negate = 6
operand_least Absolute = 0

abbrev pub level : Syntax → ℕ
level (number n) = 7
level (read f) = 7
level (group a) = 7
level (one op a) = unary_level op
level (two op a b) = level_of op
level (choose c a b) = 7

-- each operand has the level that its operator asks for, and numbers are at most 10 ^ 15
abbrev pub IsFormed : Syntax → Type 0
IsFormed (number n) = n ≤ most_time
IsFormed (read f) = Unit {0}
IsFormed (group a) = IsFormed a
IsFormed (one op a) = (operand_least op ≤ level a) × IsFormed a
IsFormed (two op a b) = (left_least op ≤ level a) × (right_least op ≤ level b) × IsFormed a × IsFormed b
IsFormed (choose c a b) = IsFormed c × IsFormed a × IsFormed b

-- a token, and how many `(`, `not` and minus signs are open where it stands
abbrev pub Mark : Type 0
Mark = Token × ℕ

-- a call with its arguments in parentheses, where so many are open
abbrev pub called : Token → ℕ → List Mark → List Mark
called name open_now arguments = (name, open_now) ∷ (token.Open, open_now) ∷ arguments ++ (token.Close, suc open_now) ∷ []

-- The tokens of a tree that stands where so many are open. A `(` is open until its `)`, and a `not` or a minus sign
-- until its operand ends.
abbrev pub spelled : ℕ → Syntax → List Mark
spelled d (number n) = (token.Number n, d) ∷ []
spelled d (read f) = (token.Read f, d) ∷ []
spelled d (group a) = (token.Open, d) ∷ spelled (suc d) a ++ (token.Close, suc d) ∷ []
spelled d (one Not a) = (token.Not, d) ∷ spelled (suc d) a
spelled d (one Negate a) = (token.Sign Subtract, d) ∷ spelled (suc d) a
spelled d (one Absolute a) = called token.Absolute d (spelled (suc d) a)
spelled d (two op a b) =
    if is_infix op then spelled d a ++ (token.Sign op, d) ∷ spelled d b
    else called (token.Sign op) d (spelled (suc d) a ++ (token.Comma, suc d) ∷ spelled (suc d) b)
spelled d (choose c a b) =
    called token.If d (spelled (suc d) c ++ (token.Comma, suc d) ∷ spelled (suc d) a ++ (token.Comma, suc d) ∷ spelled (suc d) b)

-- the tokens of a whole text
abbrev pub marked : Syntax → List Mark
marked tree = spelled 0 tree ++ (token.End, 0) ∷ []
