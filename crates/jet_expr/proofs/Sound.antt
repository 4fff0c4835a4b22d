-- What the machine has read begins a text of the grammar, and is what its state holds.
use Rattle.std.proofs.Common.{◌≡◌, ℕ, suc, ◌≤◌, Bool, true, false, cond, List, [], ◌∷◌, ◌++◌, Option, Some, None, refl, ap, sym, ◌∙◌, arith}
use Rattle.std.proofs.lemmas.Bool.{leb-true, false≢true, cond_both}
use Rattle.std.proofs.lemmas.List.{append_assoc}
use Rattle.std.specs.Prelude.{nat_le}
use Rattle.jet_items.specs.Ranges.{most_time}
use Rattle.jet_expr.specs.Syntax.{Syntax, number, group, one, two, choose, level, level_of, unary_level, left_least, right_least, operand_least, is_infix, IsFormed, Mark, spelled, called, marked}
use Rattle.jet_expr.specs.Machine.{Bracket, alone, size, first, second, condition, chosen, other, Frame, prefix, left, inside, State, want, named, have, done, openers, open_in, need, prefix_least, infix_least, reduce, on_want, on_sign, on_close, on_comma, on_end, step}
use Rattle.jet_expr.specs.declared.operator.Unary.{Unary}
use Rattle.jet_expr.specs.declared.operator.Unary.TheVariants.{Negate, Not, Absolute}
use Rattle.jet_expr.specs.declared.operator.Operator.{Operator}
use Rattle.jet_expr.specs.declared.operator.Operator.TheVariants.{Subtract, Least, Greatest}
use Rattle.jet_expr.specs.declared.token.Token.{Token}
use Rattle.jet_expr.specs.declared.token.Token.TheVariants as token
use Rattle.jet_expr.proofs.Follows.{trees, between}

-- ---- the tokens of a state

abbrev pub prefix_token : Unary → Token
prefix_token Not = token.Not
prefix_token Negate = token.Sign Subtract
prefix_token Absolute = token.Absolute

abbrev pub name_marks : ℕ → Bracket Syntax → List Mark
name_marks d alone = []
name_marks d size = (token.Absolute, d) ∷ []
name_marks d (first op) = (token.Sign op, d) ∷ []
name_marks d (second op a) = (token.Sign op, d) ∷ []
name_marks d condition = (token.If, d) ∷ []
name_marks d (chosen c) = (token.If, d) ∷ []
name_marks d (other c a) = (token.If, d) ∷ []

-- the arguments that are read, d openers being open inside
abbrev pub given_marks : ℕ → Bracket Syntax → List Mark
given_marks d alone = []
given_marks d size = []
given_marks d (first op) = []
given_marks d (second op a) = spelled d a ++ (token.Comma, d) ∷ []
given_marks d condition = []
given_marks d (chosen c) = spelled d c ++ (token.Comma, d) ∷ []
given_marks d (other c a) = spelled d c ++ (token.Comma, d) ∷ spelled d a ++ (token.Comma, d) ∷ []

abbrev pub bracket_marks : ℕ → Bracket Syntax → List Mark
bracket_marks d b = name_marks d b ++ (token.Open, d) ∷ given_marks (suc d) b

abbrev pub stack_marks : List (Frame Syntax) → List Mark
stack_marks [] = []
stack_marks (prefix op ∷ K) = stack_marks K ++ (prefix_token op, openers K) ∷ []
stack_marks (left op a ∷ K) = stack_marks K ++ (spelled (openers K) a ++ (token.Sign op, openers K) ∷ [])
stack_marks (inside b ∷ K) = stack_marks K ++ bracket_marks (openers K) b

abbrev pub state_marks : State Syntax → List Mark
state_marks (want K) = stack_marks K
state_marks (named b K) = stack_marks K ++ name_marks (openers K) b
state_marks (have K e) = stack_marks K ++ spelled (openers K) e
state_marks (done e) = marked e

-- how many openers are open in the whole stack
abbrev pub height : State Syntax → ℕ
height (want K) = openers K
height (named b K) = openers K
height (have K e) = openers K
height (done e) = 0

-- ---- states whose parts are formed

abbrev pub GoodBracket : Bracket Syntax → Type 0
GoodBracket alone = Unit {0}
GoodBracket size = Unit {0}
GoodBracket (first op) = is_infix op ≡ false
GoodBracket (second op a) = (is_infix op ≡ false) × IsFormed a
GoodBracket condition = Unit {0}
GoodBracket (chosen c) = IsFormed c
GoodBracket (other c a) = IsFormed c × IsFormed a

abbrev pub Good : List (Frame Syntax) → Type 0
Good [] = Unit {0}
Good (prefix op ∷ K) = (prefix_least op ≤ 6) × (need K ≤ unary_level op) × Good K
Good (left op a ∷ K) = (is_infix op ≡ true) × (need K ≤ level_of op) × (left_least op ≤ level a) × IsFormed a × Good K
Good (inside b ∷ K) = GoodBracket b × Good K

-- brackets whose `(` is still to come
abbrev pub IsName : Bracket Syntax → Type 0
IsName alone = ⊥
IsName size = Unit {0}
IsName (first op) = is_infix op ≡ false
IsName (second op a) = ⊥
IsName condition = Unit {0}
IsName (chosen c) = ⊥
IsName (other c a) = ⊥

abbrev pub GoodState : State Syntax → Type 0
GoodState (want K) = Good K
GoodState (named b K) = IsName b × Good K
GoodState (have K e) = Good K × IsFormed e × (level e ≡ 7)
GoodState (done e) = IsFormed e

needed : (op : Operator) → is_infix op ≡ true → infix_least op ≤ 6
needed Least e = absurd (false≢true e)
needed Greatest e = absurd (false≢true e)
needed op e = omega arith

pub need_low : (K : List (Frame Syntax)) → Good K → need K ≤ 6
need_low [] g = omega arith
need_low (prefix op ∷ K) g = g.0
need_low (left op a ∷ K) g = needed op g.0
need_low (inside b ∷ K) g = omega arith

-- what `min` and `max` ask for
pub record IsOutside (op : Operator) : Type 0 where
  pub high : level_of op ≡ 7
  pub «left» : left_least op ≡ 0
  pub «right» : right_least op ≡ 0

pub outside : (op : Operator) → is_infix op ≡ false → IsOutside op
outside Least e = record { high = refl; «left» = refl; «right» = refl }
outside Greatest e = record { high = refl; «left» = refl; «right» = refl }
outside op e = absurd (false≢true (sym e))

pub operand_low : (op : Unary) → operand_least op ≤ prefix_least op
operand_low Not = omega arith
operand_low Negate = omega arith
operand_low Absolute = omega arith

-- ---- how trees are spelled

pub spelled_prefix : (op : Unary) (d : ℕ) (e : Syntax) → prefix_least op ≤ 6 → spelled d (one op e) ≡ (prefix_token op, d) ∷ spelled (suc d) e
spelled_prefix Not d e h = refl
spelled_prefix Negate d e h = refl
spelled_prefix Absolute d e h = absurd (omega (arith, h))

pub spelled_infix : (op : Operator) (d : ℕ) (a e : Syntax) → is_infix op ≡ true → spelled d (two op a e) ≡ spelled d a ++ (token.Sign op, d) ∷ spelled d e
spelled_infix op d a e is =
    ap (λ (b : Bool). cond b (spelled d a ++ (token.Sign op, d) ∷ spelled d e) (called (token.Sign op) d (spelled (suc d) a ++ (token.Comma, suc d) ∷ spelled (suc d) e))) is

pub spelled_call : (op : Operator) (d : ℕ) (a e : Syntax) → is_infix op ≡ false
    → spelled d (two op a e) ≡ called (token.Sign op) d (spelled (suc d) a ++ (token.Comma, suc d) ∷ spelled (suc d) e)
spelled_call op d a e is =
    ap (λ (b : Bool). cond b (spelled d a ++ (token.Sign op, d) ∷ spelled d e) (called (token.Sign op) d (spelled (suc d) a ++ (token.Comma, suc d) ∷ spelled (suc d) e))) is

-- ---- reducing

pub record Reduced (least : ℕ) (K : List (Frame Syntax)) (e : Syntax) (r : List (Frame Syntax) × Syntax) : Type 0 where
  pub good : Good r.0
  pub formed : IsFormed r.1
  pub fits : need r.0 ≤ level r.1
  pub high : least ≤ level r.1
  pub low : openers r.0 ≤ openers K
  pub marks : stack_marks r.0 ++ spelled (openers r.0) r.1 ≡ stack_marks K ++ spelled (openers K) e

-- the same tokens, taken as one tree
pub from_prefix : (op : Unary) (K : List (Frame Syntax)) (e : Syntax) → prefix_least op ≤ 6
    → stack_marks K ++ spelled (openers K) (one op e) ≡ stack_marks (prefix op ∷ K) ++ spelled (suc (openers K)) e
from_prefix op K e h = ap (λ (x : List Mark). stack_marks K ++ x) (spelled_prefix op (openers K) e h) ∙ sym (append_assoc (stack_marks K) _ _)

pub from_left : (op : Operator) (K : List (Frame Syntax)) (a e : Syntax) → is_infix op ≡ true
    → stack_marks K ++ spelled (openers K) (two op a e) ≡ stack_marks (left op a ∷ K) ++ spelled (openers K) e
from_left op K a e is =
    ap (λ (x : List Mark). stack_marks K ++ x) (spelled_infix op (openers K) a e is ∙ sym (append_assoc (spelled (openers K) a) ((token.Sign op, openers K) ∷ []) (spelled (openers K) e)))
    ∙ sym (append_assoc (stack_marks K) _ _)

pub reduced : (least : ℕ) (K : List (Frame Syntax)) (e : Syntax) → Good K → IsFormed e → need K ≤ level e → least ≤ level e → Reduced least K e (reduce trees least K e)
reduced least [] e g f n h = record { good = g; formed = f; fits = n; high = h; low = omega arith; marks = refl }
reduced least (prefix op ∷ K) e g f n h =
    cond_both (nat_le least (unary_level op)) (reduce trees least K (one op e)) (prefix op ∷ K, e) (Reduced least (prefix op ∷ K) e)
    (λ t. let r = reduced least K (one op e) g.2 (omega (arith, n, operand_low op), f) g.1 (leb-true _ _ t) in
    record { good = r.good; formed = r.formed; fits = r.fits; high = r.high; low = omega (arith, r.low); marks = r.marks ∙ from_prefix op K e g.0 })
    (λ t. record { good = g; formed = f; fits = n; high = h; low = omega arith; marks = refl })
reduced least (left op a ∷ K) e g f n h =
    cond_both (nat_le least (level_of op)) (reduce trees least K (two op a e)) (left op a ∷ K, e) (Reduced least (left op a ∷ K) e)
    (λ t. let r = reduced least K (two op a e) g.4 (g.2, omega (arith, n, (between op g.0).«right»), g.3, f) g.1 (leb-true _ _ t) in
    record { good = r.good; formed = r.formed; fits = r.fits; high = r.high; low = r.low; marks = r.marks ∙ from_left op K a e g.0 })
    (λ t. record { good = g; formed = f; fits = n; high = h; low = omega arith; marks = refl })
reduced least (inside b ∷ K) e g f n h = record { good = g; formed = f; fits = n; high = h; low = omega arith; marks = refl }

-- ---- steps

-- the machine went over one token more
pub record Next (s : State Syntax) (t : Token) (next : State Syntax) : Type 0 where
  pub good : GoodState next
  pub count : ℕ
  pub counted : count ≤ height s
  pub marks : state_marks next ≡ state_marks s ++ (t, count) ∷ []
  pub low : (most : ℕ) → height s ≤ most → open_in next ≤ most → height next ≤ most

abbrev pub OnNext : State Syntax → Token → Option (State Syntax) → Type 0
OnNext s t None = Unit {0}
OnNext s t (Some next) = Next s t next

on_number : (n : ℕ) (K : List (Frame Syntax)) → Good K → OnNext (want K) (token.Number n) (on_want trees K (token.Number n))
on_number n K g =
    cond_both (nat_le n most_time) (Some (have K (number n))) None (OnNext (want K) (token.Number n))
    (λ t. record { good = (g, leb-true n most_time t, refl); count = openers K; counted = omega arith; marks = refl; low = λ most h i. h })
    (λ t. tt)

on_not : (K : List (Frame Syntax)) → Good K → OnNext (want K) token.Not (on_want trees K token.Not)
on_not K g =
    cond_both (nat_le (need K) 2) (Some (want (prefix Not ∷ K))) None (OnNext (want K) token.Not)
    (λ t. record { good = (omega arith, leb-true (need K) 2 t, g); count = openers K; counted = omega arith; marks = refl; low = λ most h i. i })
    (λ t. tt)

on_name : (b : Bracket Syntax) (t : Token) (K : List (Frame Syntax)) → Good K → IsName b → name_marks (openers K) b ≡ (t, openers K) ∷ [] → Next (want K) t (named b K)
on_name b t K g is marks = record { good = (is, g); count = openers K; counted = omega arith; marks = ap (λ (x : List Mark). stack_marks K ++ x) marks; low = λ most h i. h }

sound_want : (K : List (Frame Syntax)) (t : Token) → Good K → OnNext (want K) t (on_want trees K t)
sound_want K (token.Number n) g = on_number n K g
sound_want K (token.Read f) g = record { good = (g, tt, refl); count = openers K; counted = omega arith; marks = refl; low = λ most h i. h }
sound_want K (token.Sign Subtract) g = record { good = (omega arith, omega (arith, need_low K g), g); count = openers K; counted = omega arith; marks = refl; low = λ most h i. i }
sound_want K (token.Sign Least) g = on_name (first Least) (token.Sign Least) K g refl refl
sound_want K (token.Sign Greatest) g = on_name (first Greatest) (token.Sign Greatest) K g refl refl
sound_want K token.Not g = on_not K g
sound_want K token.Absolute g = on_name size token.Absolute K g tt refl
sound_want K token.If g = on_name condition token.If K g tt refl
sound_want K token.Open g = record { good = (tt, g); count = openers K; counted = omega arith; marks = refl; low = λ most h i. i }
sound_want K t g = tt

-- the `(` behind a name
opened : (b : Bracket Syntax) (K : List (Frame Syntax)) → Good K → GoodBracket b → given_marks (suc (openers K)) b ≡ [] → Next (named b K) token.Open (want (inside b ∷ K))
opened b K g is none = record {
  good = (is, g);
  count = openers K;
  counted = omega arith;
  marks = ap (λ (x : List Mark). stack_marks K ++ (name_marks (openers K) b ++ (token.Open, openers K) ∷ x)) none ∙ sym (append_assoc (stack_marks K) _ _);
  low = λ most h i. i;
}

sound_named : (b : Bracket Syntax) (K : List (Frame Syntax)) (t : Token) → IsName b → Good K → OnNext (named b K) t (step trees (named b K) t)
sound_named alone K t h g = absurd h
sound_named size K token.Open h g = opened size K g tt refl
sound_named size K t h g = tt
sound_named (first op) K token.Open h g = opened (first op) K g h refl
sound_named (first op) K t h g = tt
sound_named (second op a) K t h g = absurd h
sound_named condition K token.Open h g = opened condition K g tt refl
sound_named condition K t h g = tt
sound_named (chosen c) K t h g = absurd h
sound_named (other c a) K t h g = absurd h

-- an operator behind an operand
signed : (op : Operator) (K : List (Frame Syntax)) (e : Syntax) (r : List (Frame Syntax) × Syntax) → is_infix op ≡ true → Reduced (left_least op) K e r
    → OnNext (have K e) (token.Sign op) (on_sign op r)
signed op K e r is d =
    cond_both (nat_le (need r.0) (level_of op)) (Some (want (left op r.1 ∷ r.0))) None (OnNext (have K e) (token.Sign op))
    (λ t. record {
      good = (is, leb-true (need r.0) (level_of op) t, d.high, d.formed, d.good);
      count = openers r.0;
      counted = d.low;
      marks = sym (append_assoc (stack_marks r.0) _ _) ∙ ap (λ (x : List Mark). x ++ (token.Sign op, openers r.0) ∷ []) d.marks;
      low = λ most h i. i;
    })
    (λ t. tt)

-- the tokens of a bracket, of its last argument and of what ends it
pub three : (ms bs es cs : List Mark) → ms ++ ((bs ++ es) ++ cs) ≡ ((ms ++ bs) ++ es) ++ cs
three ms bs es cs = sym (append_assoc ms (bs ++ es) cs) ∙ ap (λ (x : List Mark). x ++ cs) (sym (append_assoc ms bs es))

shut : (K L : List (Frame Syntax)) (e x tree : Syntax) (b : Bracket Syntax) → Reduced 0 K e (inside b ∷ L, x) → IsFormed tree → level tree ≡ 7
    → spelled (openers L) tree ≡ (bracket_marks (openers L) b ++ spelled (suc (openers L)) x) ++ (token.Close, suc (openers L)) ∷ [] → Next (have K e) token.Close (have L tree)
shut K L e x tree b d f high is = record {
  good = (d.good.1, f, high);
  count = suc (openers L);
  counted = d.low;
  marks = ap (λ (y : List Mark). stack_marks L ++ y) is ∙ (three (stack_marks L) (bracket_marks (openers L) b) _ _ ∙ ap (λ (y : List Mark). y ++ (token.Close, suc (openers L)) ∷ []) d.marks);
  low = λ most h i. omega (arith, d.low, h);
}

pub closes_second : (op : Operator) (d : ℕ) (a x : Syntax) → is_infix op ≡ false
    → spelled d (two op a x) ≡ (bracket_marks d (second op a) ++ spelled (suc d) x) ++ (token.Close, suc d) ∷ []
closes_second op d a x is =
    spelled_call op d a x is
    ∙ ap (λ (y : List Mark). (token.Sign op, d) ∷ (token.Open, d) ∷ (y ++ (token.Close, suc d) ∷ [])) (sym (append_assoc (spelled (suc d) a) ((token.Comma, suc d) ∷ []) (spelled (suc d) x)))

pub closes_other : (d : ℕ) (c a x : Syntax) → spelled d (choose c a x) ≡ (bracket_marks d (other c a) ++ spelled (suc d) x) ++ (token.Close, suc d) ∷ []
closes_other d c a x =
    ap (λ (y : List Mark). (token.If, d) ∷ (token.Open, d) ∷ (y ++ (token.Close, suc d) ∷ []))
    (sym (append_assoc (spelled (suc d) c ++ (token.Comma, suc d) ∷ spelled (suc d) a) ((token.Comma, suc d) ∷ []) (spelled (suc d) x)))

pub formed_second : (op : Operator) (a x : Syntax) → is_infix op ≡ false → IsFormed a → IsFormed x → IsFormed (two op a x)
formed_second op a x is f g = (omega (arith, (outside op is).«left»), omega (arith, (outside op is).«right»), f, g)

sound_close : (K L : List (Frame Syntax)) (e x : Syntax) → Reduced 0 K e (L, x) → OnNext (have K e) token.Close (on_close trees L x)
sound_close K [] e x d = tt
sound_close K (prefix op ∷ L) e x d = tt
sound_close K (left op a ∷ L) e x d = tt
sound_close K (inside alone ∷ L) e x d = shut K L e x (group x) alone d d.formed refl refl
sound_close K (inside size ∷ L) e x d = shut K L e x (one Absolute x) size d (omega arith, d.formed) refl refl
sound_close K (inside (first op) ∷ L) e x d = tt
sound_close K (inside (second op a) ∷ L) e x d =
    shut K L e x (two op a x) (second op a) d (formed_second op a x d.good.0.0 d.good.0.1 d.formed) ((outside op d.good.0.0).high) (closes_second op (openers L) a x d.good.0.0)
sound_close K (inside condition ∷ L) e x d = tt
sound_close K (inside (chosen c) ∷ L) e x d = tt
sound_close K (inside (other c a) ∷ L) e x d = shut K L e x (choose c a x) (other c a) d (d.good.0.0, d.good.0.1, d.formed) refl (closes_other (openers L) c a x)

parted : (K L : List (Frame Syntax)) (e x : Syntax) (b next : Bracket Syntax) → Reduced 0 K e (inside b ∷ L, x) → GoodBracket next
    → bracket_marks (openers L) next ≡ (bracket_marks (openers L) b ++ spelled (suc (openers L)) x) ++ (token.Comma, suc (openers L)) ∷ [] → Next (have K e) token.Comma (want (inside next ∷ L))
parted K L e x b next d g is = record {
  good = (g, d.good.1);
  count = suc (openers L);
  counted = d.low;
  marks = ap (λ (y : List Mark). stack_marks L ++ y) is ∙ (three (stack_marks L) (bracket_marks (openers L) b) _ _ ∙ ap (λ (y : List Mark). y ++ (token.Comma, suc (openers L)) ∷ []) d.marks);
  low = λ most h i. i;
}

sound_comma : (K L : List (Frame Syntax)) (e x : Syntax) → Reduced 0 K e (L, x) → OnNext (have K e) token.Comma (on_comma L x)
sound_comma K [] e x d = tt
sound_comma K (prefix op ∷ L) e x d = tt
sound_comma K (left op a ∷ L) e x d = tt
sound_comma K (inside alone ∷ L) e x d = tt
sound_comma K (inside size ∷ L) e x d = tt
sound_comma K (inside (first op) ∷ L) e x d = parted K L e x (first op) (second op x) d (d.good.0, d.formed) refl
sound_comma K (inside (second op a) ∷ L) e x d = tt
sound_comma K (inside condition ∷ L) e x d = parted K L e x condition (chosen x) d d.formed refl
sound_comma K (inside (chosen c) ∷ L) e x d =
    parted K L e x (chosen c) (other c x) d (d.good.0, d.formed)
    (ap (λ (y : List Mark). (token.If, openers L) ∷ (token.Open, openers L) ∷ (y ++ (token.Comma, suc (openers L)) ∷ []))
    (sym (append_assoc (spelled (suc (openers L)) c) ((token.Comma, suc (openers L)) ∷ []) (spelled (suc (openers L)) x))))
sound_comma K (inside (other c a) ∷ L) e x d = tt

sound_end : (K L : List (Frame Syntax)) (e x : Syntax) → Reduced 0 K e (L, x) → OnNext (have K e) token.End (on_end L x)
sound_end K [] e x d = record {
  good = d.formed;
  count = 0;
  counted = omega arith;
  marks = ap (λ (y : List Mark). y ++ (token.End, 0) ∷ []) d.marks;
  low = λ most h i. omega arith;
}
sound_end K (f ∷ L) e x d = tt

sound_have : (K : List (Frame Syntax)) (e : Syntax) (t : Token) → Good K → IsFormed e → level e ≡ 7 → OnNext (have K e) t (step trees (have K e) t)
sound_have K e (token.Sign op) g f h =
    cond_both (is_infix op) (on_sign op (reduce trees (left_least op) K e)) None (OnNext (have K e) (token.Sign op))
    (λ is. signed op K e (reduce trees (left_least op) K e) is (reduced (left_least op) K e g f (omega (arith, need_low K g, h)) (omega (arith, left_low op is, h))))
    (λ is. tt)
  where
    left_low : (op : Operator) → is_infix op ≡ true → left_least op ≤ 7
    left_low op is = omega (arith, (between op is).top)
sound_have K e token.Close g f h = let r = reduce trees 0 K e in sound_close K r.0 e r.1 (reduced 0 K e g f (omega (arith, need_low K g, h)) (omega arith))
sound_have K e token.Comma g f h = let r = reduce trees 0 K e in sound_comma K r.0 e r.1 (reduced 0 K e g f (omega (arith, need_low K g, h)) (omega arith))
sound_have K e token.End g f h = let r = reduce trees 0 K e in sound_end K r.0 e r.1 (reduced 0 K e g f (omega (arith, need_low K g, h)) (omega arith))
sound_have K e t g f h = tt

pub sound_step : (s : State Syntax) (t : Token) → GoodState s → OnNext s t (step trees s t)
sound_step (want K) t g = sound_want K t g
sound_step (named b K) t g = sound_named b K t g.0 g.1
sound_step (have K e) t g = sound_have K e t g.0 g.1 g.2
sound_step (done e) t g = tt
