-- What contracts see of an expression: a tree of numbers, fields and operators.
use Rattle.std.specs.Prelude.{◌≡◌, ℕ, zero, suc, ℤ, pos, List, [], ◌∷◌, ◌++◌, refl}
use Rattle.std.specs.Coded.{Coded, code_by, coded_list, coded×, coded_ℕ, coded_ℤ}
use Rattle.std.proofs.Common.{ap, ◌∙◌}
use Rattle.jet_items.specs.Ranges.{IsWithin, most_time}
use Rattle.jet_expr.specs.declared.field.Field.{Field}
use Rattle.jet_expr.specs.declared.field.Field.TheVariants.{Ts, Part, V0, V1, V2, V3}
use Rattle.jet_expr.specs.declared.operator.Unary.{Unary}
use Rattle.jet_expr.specs.declared.operator.Unary.TheVariants.{Negate, Absolute, Not}
use Rattle.jet_expr.specs.declared.operator.Operator.{Operator}
use Rattle.jet_expr.specs.declared.operator.Operator.TheVariants.{Add, Subtract, Multiply, Divide, Remainder, Equal, Unequal, Less, AtMost, Greater, AtLeast, And, Or, Least, Greatest}

pub data Term : Type 0 where
  number : ℤ → Term
  read : Field → Term
  one : Unary → Term → Term
  two : Operator → Term → Term → Term
  choose : Term → Term → Term → Term

-- each number lies from -10 ^ 15 to 10 ^ 15
abbrev pub AreSmall : Term → Type 0
AreSmall (number z) = IsWithin most_time z
AreSmall (read f) = Unit {0}
AreSmall (one op a) = AreSmall a
AreSmall (two op a b) = AreSmall a × AreSmall b
AreSmall (choose c a b) = AreSmall c × (AreSmall a × AreSmall b)

-- How the logic stores a term: its parts from the left, each operator after its operands.

abbrev pub field_number : Field → ℕ
field_number Ts = 0
field_number Part = 1
field_number V0 = 2
field_number V1 = 3
field_number V2 = 4
field_number V3 = 5

abbrev pub field_at : ℕ → Field
field_at zero = Ts
field_at (suc zero) = Part
field_at (suc (suc zero)) = V0
field_at (suc (suc (suc zero))) = V1
field_at (suc (suc (suc (suc zero)))) = V2
field_at (suc (suc (suc (suc (suc n))))) = V3

pub field_back : (f : Field) → field_at (field_number f) ≡ f
field_back Ts = refl
field_back f = refl

abbrev pub unary_number : Unary → ℕ
unary_number Negate = 0
unary_number Absolute = 1
unary_number Not = 2

abbrev pub unary_at : ℕ → Unary
unary_at zero = Negate
unary_at (suc zero) = Absolute
unary_at (suc (suc n)) = Not

pub unary_back : (f : Unary) → unary_at (unary_number f) ≡ f
unary_back Negate = refl
unary_back f = refl

abbrev pub operator_number : Operator → ℕ
operator_number Add = 0
operator_number Subtract = 1
operator_number Multiply = 2
operator_number Divide = 3
operator_number Remainder = 4
operator_number Equal = 5
operator_number Unequal = 6
operator_number Less = 7
operator_number AtMost = 8
operator_number Greater = 9
operator_number AtLeast = 10
operator_number And = 11
operator_number Or = 12
operator_number Least = 13
operator_number Greatest = 14

-- the operator at a number of a list
abbrev pub operator_in : List Operator → ℕ → Operator
operator_in [] n = Add
operator_in (op ∷ ops) zero = op
operator_in (op ∷ ops) (suc n) = operator_in ops n

abbrev pub operator_at : ℕ → Operator
operator_at = operator_in (Add ∷ Subtract ∷ Multiply ∷ Divide ∷ Remainder ∷ Equal ∷ Unequal ∷ Less ∷ AtMost ∷ Greater ∷ AtLeast ∷ And ∷ Or ∷ Least ∷ Greatest ∷ [])

pub operator_back : (f : Operator) → operator_at (operator_number f) ≡ f
operator_back Add = refl
operator_back f = refl

abbrev pub parts : Term → List (ℕ × ℤ)
parts (number z) = (0, z) ∷ []
parts (read f) = (1, pos (field_number f)) ∷ []
parts (one op a) = parts a ++ (2, pos (unary_number op)) ∷ []
parts (two op a b) = parts a ++ (parts b ++ (3, pos (operator_number op)) ∷ [])
parts (choose c a b) = parts c ++ (parts a ++ (parts b ++ (4, pos 0) ∷ []))

abbrev pub size_of : ℤ → ℕ
size_of (pos n) = n
size_of _ = 0

-- a part, put on a stack of terms
abbrev pub put : ℕ → ℤ → List Term → List Term
put zero z stack = number z ∷ stack
put (suc zero) z stack = read (field_at (size_of z)) ∷ stack
put (suc (suc zero)) z [] = []
put (suc (suc zero)) z (a ∷ stack) = one (unary_at (size_of z)) a ∷ stack
put (suc (suc (suc zero))) z [] = []
put (suc (suc (suc zero))) z (b ∷ []) = []
put (suc (suc (suc zero))) z (b ∷ a ∷ stack) = two (operator_at (size_of z)) a b ∷ stack
put (suc (suc (suc (suc n)))) z [] = []
put (suc (suc (suc (suc n)))) z (b ∷ []) = []
put (suc (suc (suc (suc n)))) z (b ∷ a ∷ []) = []
put (suc (suc (suc (suc n)))) z (b ∷ a ∷ c ∷ stack) = choose c a b ∷ stack

abbrev pub put_all : List (ℕ × ℤ) → List Term → List Term
put_all [] stack = stack
put_all (p ∷ ps) stack = put_all ps (put p.0 p.1 stack)

abbrev pub top_of : List Term → Term
top_of [] = number (pos 0)
top_of (t ∷ stack) = t

abbrev pub term_at : List (ℕ × ℤ) → Term
term_at ps = top_of (put_all ps [])

put_all-append : (ps qs : List (ℕ × ℤ)) (stack : List Term) → put_all (ps ++ qs) stack ≡ put_all qs (put_all ps stack)
put_all-append [] qs stack = refl
put_all-append (p ∷ ps) qs stack = put_all-append ps qs (put p.0 p.1 stack)

put_parts : (t : Term) (stack : List Term) → put_all (parts t) stack ≡ t ∷ stack
put_parts (number z) stack = refl
put_parts (read f) stack = ap (λ g. read g ∷ stack) (field_back f)
put_parts (one op a) stack =
    put_all-append (parts a) _ stack ∙ (ap (put_all ((2, pos (unary_number op)) ∷ [])) (put_parts a stack) ∙ ap (λ g. one g a ∷ stack) (unary_back op))
put_parts (two op a b) stack =
    put_all-append (parts a) _ stack ∙ (ap (put_all (parts b ++ (3, pos (operator_number op)) ∷ [])) (put_parts a stack)
    ∙ (put_all-append (parts b) _ (a ∷ stack) ∙ (ap (put_all ((3, pos (operator_number op)) ∷ [])) (put_parts b (a ∷ stack)) ∙ ap (λ g. two g a b ∷ stack) (operator_back op))))
put_parts (choose c a b) stack =
    put_all-append (parts c) _ stack ∙ (ap (put_all (parts a ++ (parts b ++ (4, pos 0) ∷ []))) (put_parts c stack)
    ∙ (put_all-append (parts a) _ (c ∷ stack) ∙ (ap (put_all (parts b ++ (4, pos 0) ∷ [])) (put_parts a (c ∷ stack))
    ∙ (put_all-append (parts b) _ (a ∷ c ∷ stack) ∙ ap (put_all ((4, pos 0) ∷ [])) (put_parts b (a ∷ c ∷ stack))))))

pub term_back : (t : Term) → term_at (parts t) ≡ t
term_back t = ap top_of (put_parts t [])

abbrev pub term_code : Coded Term
term_code = code_by (List (ℕ × ℤ)) (coded_list (coded× coded_ℕ coded_ℤ)) parts term_at term_back
