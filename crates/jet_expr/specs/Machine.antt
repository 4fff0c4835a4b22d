-- Reading from the left, a token at a time. The stack holds what waits for its last operand, the innermost first.
use Rattle.std.specs.Prelude.{ℕ, suc, pos, length, Bool, nat_le, not, List, [], ◌∷◌, Option, Some, None, Result, Ok, Err, if◌then◌else◌}
use Rattle.jet_items.specs.Ranges.{most_time}
use Rattle.jet_expr.specs.Term.{Term}
use Rattle.jet_expr.specs.Term as term
use Rattle.jet_expr.specs.Syntax.{is_infix, level_of, unary_level, left_least, right_least}
use Rattle.jet_expr.specs.Tokens.{tokens_of}
use Rattle.jet_expr.specs.declared.field.Field.{Field}
use Rattle.jet_expr.specs.declared.fault.ExprFault.{ExprFault}
use Rattle.jet_expr.specs.declared.fault.ExprFault.TheVariants as fault
use Rattle.jet_expr.specs.declared.operator.Unary.{Unary}
use Rattle.jet_expr.specs.declared.operator.Unary.TheVariants.{Negate, Not, Absolute}
use Rattle.jet_expr.specs.declared.operator.Operator.{Operator}
use Rattle.jet_expr.specs.declared.operator.Operator.TheVariants.{Subtract, Least, Greatest}
use Rattle.jet_expr.specs.declared.token.Token.{Token}
use Rattle.jet_expr.specs.declared.token.Token.TheVariants as token

-- how trees of some kind are made
pub record Maker (A : Type 0) : Type 0 where
  pub number : ℕ → A
  pub read : Field → A
  pub group : A → A
  pub one : Unary → A → A
  pub two : Operator → A → A → A
  pub choose : A → A → A → A

abbrev pub terms : Maker Term
terms = record { number = λ n. term.number (pos n); read = term.read; group = λ a. a; one = term.one; two = term.two; choose = term.choose }

pub data Bracket (A : Type 0) : Type 0 where
  alone : Bracket A
  size : Bracket A
  first : Operator → Bracket A
  second : Operator → A → Bracket A
  condition : Bracket A
  chosen : A → Bracket A
  other : A → A → Bracket A

pub data Frame (A : Type 0) : Type 0 where
  prefix : Unary → Frame A
  left : Operator → A → Frame A
  inside : Bracket A → Frame A

pub data State (A : Type 0) : Type 0 where
  want : List (Frame A) → State A
  named : Bracket A → List (Frame A) → State A
  have : List (Frame A) → A → State A
  done : A → State A

-- how many openers wait
abbrev pub openers : {A : Type 0} → List (Frame A) → ℕ
openers [] = 0
openers (prefix op ∷ K) = suc (openers K)
openers (left op a ∷ K) = openers K
openers (inside b ∷ K) = suc (openers K)

-- the stack from its innermost bracket on
abbrev pub bracketed : {A : Type 0} → List (Frame A) → List (Frame A)
bracketed [] = []
bracketed (prefix op ∷ K) = bracketed K
bracketed (left op a ∷ K) = bracketed K
bracketed (inside b ∷ K) = inside b ∷ K

-- how many openers are surely open
abbrev pub open_in : {A : Type 0} → State A → ℕ
open_in (want K) = openers K
open_in (named b K) = openers K
open_in (have K e) = openers (bracketed K)
open_in (done e) = 0

-- The least level that a sign takes for what follows it. `abs`, `min` and `max` have their operands in brackets, so no
-- level is enough.
abbrev pub prefix_least : Unary → ℕ
prefix_least Not = 2
prefix_least Negate = 6
prefix_least Absolute = 8

abbrev pub infix_least : Operator → ℕ
infix_least op = if is_infix op then right_least op else 8

-- the least level that the stack takes for its operand
abbrev pub need : {A : Type 0} → List (Frame A) → ℕ
need [] = 0
need (prefix op ∷ K) = prefix_least op
need (left op a ∷ K) = infix_least op
need (inside b ∷ K) = 0

-- what waits takes its operand, down to a bracket or what has a lower level than this
abbrev pub reduce : {A : Type 0} → Maker A → ℕ → List (Frame A) → A → List (Frame A) × A
reduce M least [] e = ([], e)
reduce M least (prefix op ∷ K) e = if nat_le least (unary_level op) then reduce M least K (M.one op e) else (prefix op ∷ K, e)
reduce M least (left op a ∷ K) e = if nat_le least (level_of op) then reduce M least K (M.two op a e) else (left op a ∷ K, e)
reduce M least (inside b ∷ K) e = (inside b ∷ K, e)

-- a bracket is closed behind its last argument
abbrev pub close : {A : Type 0} → Maker A → Bracket A → A → Option A
close M alone e = Some (M.group e)
close M size e = Some (M.one Absolute e)
close M (first op) e = None
close M (second op a) e = Some (M.two op a e)
close M condition e = None
close M (chosen c) e = None
close M (other c a) e = Some (M.choose c a e)

-- a comma follows an argument that is not the last one
abbrev pub comma : {A : Type 0} → Bracket A → A → Option (Bracket A)
comma alone e = None
comma size e = None
comma (first op) e = Some (second op e)
comma (second op a) e = None
comma condition e = Some (chosen e)
comma (chosen c) e = Some (other c e)
comma (other c a) e = None

abbrev pub on_want : {A : Type 0} → Maker A → List (Frame A) → Token → Option (State A)
on_want M K (token.Number n) = if nat_le n most_time then Some (have K (M.number n)) else None
on_want M K (token.Read f) = Some (have K (M.read f))
on_want M K (token.Sign Subtract) = Some (want (prefix Negate ∷ K))
on_want M K (token.Sign Least) = Some (named (first Least) K)
on_want M K (token.Sign Greatest) = Some (named (first Greatest) K)
on_want M K token.Not = if nat_le (need K) 2 then Some (want (prefix Not ∷ K)) else None
on_want M K token.Absolute = Some (named size K)
on_want M K token.If = Some (named condition K)
on_want M K token.Open = Some (want (inside alone ∷ K))
on_want M K t = None

abbrev pub on_named : {A : Type 0} → Bracket A → List (Frame A) → Token → Option (State A)
on_named b K token.Open = Some (want (inside b ∷ K))
on_named b K t = None

-- an operator takes what was reduced for its left operand
abbrev pub on_sign : {A : Type 0} → Operator → List (Frame A) × A → Option (State A)
on_sign op r = if nat_le (need r.0) (level_of op) then Some (want (left op r.1 ∷ r.0)) else None

abbrev pub closed : {A : Type 0} → List (Frame A) → Option A → Option (State A)
closed K None = None
closed K (Some e) = Some (have K e)

abbrev pub on_close : {A : Type 0} → Maker A → List (Frame A) → A → Option (State A)
on_close M [] e = None
on_close M (prefix op ∷ K) e = None
on_close M (left op a ∷ K) e = None
on_close M (inside b ∷ K) e = closed K (close M b e)

abbrev pub gone_on : {A : Type 0} → List (Frame A) → Option (Bracket A) → Option (State A)
gone_on K None = None
gone_on K (Some b) = Some (want (inside b ∷ K))

abbrev pub on_comma : {A : Type 0} → List (Frame A) → A → Option (State A)
on_comma [] e = None
on_comma (prefix op ∷ K) e = None
on_comma (left op a ∷ K) e = None
on_comma (inside b ∷ K) e = gone_on K (comma b e)

abbrev pub on_end : {A : Type 0} → List (Frame A) → A → Option (State A)
on_end [] e = Some (done e)
on_end (f ∷ K) e = None

abbrev pub on_have : {A : Type 0} → Maker A → List (Frame A) → A → Token → Option (State A)
on_have M K e (token.Sign op) = if is_infix op then on_sign op (reduce M (left_least op) K e) else None
on_have M K e token.Close = let r = reduce M 0 K e in on_close M r.0 r.1
on_have M K e token.Comma = let r = reduce M 0 K e in on_comma r.0 r.1
on_have M K e token.End = let r = reduce M 0 K e in on_end r.0 r.1
on_have M K e t = None

abbrev pub step : {A : Type 0} → Maker A → State A → Token → Option (State A)
step M (want K) t = on_want M K t
step M (named b K) t = on_named b K t
step M (have K e) t = on_have M K e t
step M (done e) t = None

-- a token at which nothing goes on, where 32 openers are open or not
abbrev pub fault_at : Bool → ℕ → Token → ExprFault
fault_at full at token.Unknown = fault.Unknown at
fault_at full at (token.Number n) = if nat_le n most_time then fault.Expected at else fault.NumberRange at
fault_at full at token.Open = if full then fault.Deep else fault.Expected at
fault_at full at token.Not = if full then fault.Deep else fault.Expected at
fault_at full at (token.Sign Subtract) = if full then fault.Deep else fault.Expected at
fault_at full at t = fault.Expected at

abbrev pub is_full : {A : Type 0} → State A → Bool
is_full s = not (nat_le (open_in s) 31)

-- at most 32 openers may be open
abbrev pub if_shallow : {A : Type 0} → Option (State A) → Option (State A)
if_shallow None = None
if_shallow (Some s) = if nat_le (open_in s) 32 then Some s else None

abbrev pub advance : {A : Type 0} → Maker A → State A → Token → Option (State A)
advance M s t = if_shallow (step M s t)

-- the answer where no token is left
abbrev pub ended : {A : Type 0} → State A → Result A ExprFault
ended (done e) = Ok e
ended s = Err (fault.Expected 0)

abbrev pub on_step : {A B : Type 0} → Option (State A) → (State A → B) → B → B
on_step None go stop = stop
on_step (Some s) go stop = go s

-- the tree that the tokens give, or the fault at the first one at which nothing goes on
abbrev pub outcome : {A : Type 0} → Maker A → State A → List (ℕ × Token) → Result A ExprFault
outcome M s [] = ended s
outcome M s (p ∷ ps) = on_step (advance M s p.1) (λ next. outcome M next ps) (Err (fault_at (is_full s) p.0 p.1))

-- the term of a text, or its fault
abbrev pub expr_at : List ℕ → Result Term ExprFault
expr_at text = if nat_le (length text) 1024 then outcome terms (want []) (tokens_of text) else Err fault.Large
