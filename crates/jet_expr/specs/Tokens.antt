-- The tokens of a text, each with the place of its first byte. The longest token counts, and blanks stand between.
use Rattle.std.specs.Prelude.{ℕ, zero, suc, ◌+◌, pred, min, List, [], ◌∷◌, length, ◌==◌, bytes_eq, codes, take_while, slice_index, if◌then◌else◌}
use Rattle.std.specs.Char.{is_ascii_digit, is_ascii_alphabetic, is_ascii_alphanumeric}
use Rattle.std.specs.Str.Parse.{digits_value}
use Rattle.jet_items.specs.Ranges.{most_time}
use Rattle.jet_expr.specs.declared.field.Field.TheVariants as field
use Rattle.jet_expr.specs.declared.operator.Operator.TheVariants.{Add, Subtract, Multiply, Divide, Remainder, Equal, Unequal, Less, AtMost, Greater, AtLeast, And, Or, Least, Greatest}
use Rattle.jet_expr.specs.declared.token.Token.{Token}
use Rattle.jet_expr.specs.declared.token.Token.TheVariants.{Number, Read, Sign, Not, Absolute, If, Open, Close, Comma, Unknown, Stray, End}

-- a number, of which only so much counts that it is too great
abbrev pub number_token : List ℕ → Token
number_token digits = Number (min (most_time + 1) (digits_value 10 digits))

-- the words of the grammar
abbrev pub word_token : List ℕ → Token
word_token w =
    if bytes_eq w (codes "ts") then Read field.Ts
    else if bytes_eq w (codes "part") then Read field.Part
    else if bytes_eq w (codes "v0") then Read field.V0
    else if bytes_eq w (codes "v1") then Read field.V1
    else if bytes_eq w (codes "v2") then Read field.V2
    else if bytes_eq w (codes "v3") then Read field.V3
    else if bytes_eq w (codes "or") then Sign Or
    else if bytes_eq w (codes "and") then Sign And
    else if bytes_eq w (codes "not") then Not
    else if bytes_eq w (codes "min") then Sign Least
    else if bytes_eq w (codes "max") then Sign Greatest
    else if bytes_eq w (codes "abs") then Absolute
    else if bytes_eq w (codes "if") then If
    else Unknown

-- the signs of one byte
abbrev pub sign_token : ℕ → Token
sign_token c =
    if c == 43 then Sign Add
    else if c == 45 then Sign Subtract
    else if c == 42 then Sign Multiply
    else if c == 47 then Sign Divide
    else if c == 37 then Sign Remainder
    else if c == 40 then Open
    else if c == 41 then Close
    else if c == 44 then Comma
    else if c == 61 then Sign Equal
    else if c == 60 then Sign Less
    else if c == 62 then Sign Greater
    else Stray

-- a sign takes two bytes where `=` follows `!`, `<` or `>`
abbrev pub sign_of : ℕ → ℕ → Token × ℕ
sign_of c next =
    if next == 61 then
    if c == 33 then (Sign Unequal, 2)
    else if c == 60 then (Sign AtMost, 2)
    else if c == 62 then (Sign AtLeast, 2)
    else (sign_token c, 1)
    else (sign_token c, 1)

-- the token that begins a text that is not empty, and how many bytes it has
abbrev pub token_of : List ℕ → Token × ℕ
token_of text =
    if is_ascii_digit (slice_index text 0) then (number_token (take_while is_ascii_digit text), length (take_while is_ascii_digit text))
    else if is_ascii_alphabetic (slice_index text 0) then (word_token (take_while is_ascii_alphanumeric text), length (take_while is_ascii_alphanumeric text))
    else sign_of (slice_index text 0) (slice_index text 1)

-- the tokens from this place on, behind the bytes that are of the token before
abbrev pub tokens_from : ℕ → ℕ → List ℕ → List (ℕ × Token)
tokens_from at rest [] = (at, End) ∷ []
tokens_from at (suc rest) (c ∷ text) = tokens_from (at + 1) rest text
tokens_from at zero (c ∷ text) =
    if c == 32 then tokens_from (at + 1) 0 text
    else (at, (token_of (c ∷ text)).0) ∷ tokens_from (at + 1) (pred (token_of (c ∷ text)).1) text

-- the tokens of a text
abbrev pub tokens_of : List ℕ → List (ℕ × Token)
tokens_of text = tokens_from 0 0 text
