-- Which texts are expressions, and where and why all others stop to be one.
use Rattle.std.specs.Prelude.{◌≡◌, ◌≢◌, ℕ, ◌≤◌, ◌<◌, List, [], ◌∷◌, ◌++◌, length, map}
use Rattle.jet_items.specs.Ranges.{most_time}
use Rattle.jet_items.specs.declared.no_memory.Refused.{Refused}
use Rattle.jet_items.specs.declared.no_memory.Refused.TheVariants as refused
use Rattle.jet_expr.specs.Term.{Term}
use Rattle.jet_expr.specs.Syntax.{Syntax, meaning, IsFormed, Mark, marked}
use Rattle.jet_expr.specs.Tokens.{tokens_of}
use Rattle.jet_expr.specs.declared.fault.ExprFault.{ExprFault}
use Rattle.jet_expr.specs.declared.fault.ExprFault.TheVariants as fault
use Rattle.jet_expr.specs.declared.operator.Operator.TheVariants.{Subtract}
use Rattle.jet_expr.specs.declared.token.Token.{Token}
use Rattle.jet_expr.specs.declared.token.Token.TheVariants as token

-- at most so many openers may be open at once
abbrev pub most_open : ℕ
most_open = 32

-- how many openers are open at the first of these tokens
abbrev pub open_first : List Mark → ℕ
open_first [] = 0
open_first (m ∷ ms) = m.1

-- the marked tokens are these and then the rest, and at none of these, nor at what follows them, are too many openers open
abbrev pub Fits : List Token → List Mark → List Mark → Type 0
Fits [] marks rest = (marks ≡ rest) × (open_first rest ≤ most_open)
Fits (t ∷ ts) [] rest = ⊥
Fits (t ∷ ts) (m ∷ marks) rest = (m.0 ≡ t) × (m.1 ≤ most_open) × Fits ts marks rest

-- a text of the grammar begins with these tokens, and up to what follows them at most 32 openers are open at once
pub record Starts (ts : List Token) : Type 0 where
  pub tree : Syntax
  pub formed : IsFormed tree
  pub rest : List Mark
  pub fits : Fits ts (marked tree) rest

abbrev pub tokens_in : List (ℕ × Token) → List Token
tokens_in ps = map (λ p. p.1) ps

-- the text is an expression and means this term: its tokens are those of a tree, with at most 32 openers open at once
pub record IsExpression (text : List ℕ) (t : Term) : Type 0 where
  pub short : length text ≤ 1024
  pub tree : Syntax
  pub formed : IsFormed tree
  pub fits : Fits (tokens_in (tokens_of text)) (marked tree) []
  pub means : meaning tree ≡ t

-- the token at this place is the first at which nothing goes on: those before it begin a text of the grammar, and with
-- it they begin none
pub record Stops (text : List ℕ) (before : List Token) (at : ℕ) (t : Token) : Type 0 where
  pub earlier : List (ℕ × Token)
  pub later : List (ℕ × Token)
  pub cut : tokens_of text ≡ earlier ++ (at, t) ∷ later
  pub are : tokens_in earlier ≡ before
  pub goes : Starts before
  pub ends : Starts (before ++ t ∷ []) → ⊥

-- behind these tokens as many openers are open as may be, in every text that begins with them
abbrev pub IsFull : List Token → Type 0
IsFull before = (s : Starts before) → most_open ≤ open_first s.rest

-- the tokens that open: a `(`, a `not`, and a minus sign, which is none between operands where nothing goes on
abbrev pub Opens : Token → Type 0
Opens token.Open = Unit {0}
Opens token.Not = Unit {0}
Opens (token.Sign Subtract) = Unit {0}
Opens t = ⊥

abbrev pub IsAbove : Token → Type 0
IsAbove (token.Number n) = most_time < n
IsAbove t = ⊥

-- why nothing goes on at this token
abbrev pub IsCause : ExprFault → List Token → ℕ → Token → Type 0
IsCause (fault.Unknown place) before at t = (place ≡ at) × (t ≡ token.Unknown)
IsCause (fault.NumberRange place) before at t = (place ≡ at) × IsAbove t
IsCause fault.Deep before at t = Opens t × IsFull before
IsCause (fault.Expected place) before at t = (place ≡ at) × (t ≢ token.Unknown) × (¬ (IsAbove t)) × (¬ (Opens t × IsFull before))
IsCause fault.Large before at t = ⊥

pub record Faults (text : List ℕ) (f : ExprFault) : Type 0 where
  pub short : length text ≤ 1024
  pub before : List Token
  pub at : ℕ
  pub next : Token
  pub stops : Stops text before at next
  pub cause : IsCause f before at next

-- the fault of a text that is no expression
abbrev pub IsFaultOf : List ℕ → ExprFault → Type 0
IsFaultOf text fault.Large = 1024 < length text
IsFaultOf text f = Faults text f

-- an answer that refuses the text tells its fault, or that no memory was found
abbrev pub IsRefusal : List ℕ → Refused ExprFault → Type 0
IsRefusal text (refused.Fault f) = IsFaultOf text f
IsRefusal text refused.NoMemory = Unit {0}
