-- The machine goes over tokens exactly where they begin a text of the grammar.
use Rattle.std.proofs.Common.{◌≡◌, ℕ, suc, ◌≤◌, Bool, true, cond, List, [], ◌∷◌, ◌++◌, Option, Some, None, refl, ap, sym, subst, ◌∙◌, arith}
use Rattle.std.proofs.lemmas.Bool.{le-leb, leb-true, cond_both}
use Rattle.std.proofs.lemmas.List.{append_assoc, append-nil}
use Rattle.std.proofs.lemmas.Option.{same_Some, none-some}
use Rattle.std.specs.Prelude.{nat_le}
use Rattle.jet_expr.specs.Syntax.{Syntax, number, group, one, two, choose, level, IsFormed, Mark, spelled, marked}
use Rattle.jet_expr.specs.Grammar.{Fits, Starts, open_first}
use Rattle.jet_expr.specs.Machine.{Bracket, alone, size, first, second, condition, chosen, other, Frame, prefix, left, inside, State, want, named, have, done, openers, bracketed, open_in, need, step, if_shallow, advance, on_step}
use Rattle.jet_expr.specs.declared.operator.Unary.TheVariants.{Absolute}
use Rattle.jet_expr.specs.declared.token.Token.{Token}
use Rattle.jet_expr.specs.declared.token.Token.TheVariants as token
use Rattle.jet_expr.proofs.Follows.{trees, Follows, between}
use Rattle.jet_expr.proofs.Sound.{stack_marks, state_marks, bracket_marks, name_marks, given_marks, height, Good, GoodBracket, GoodState, IsName, need_low, outside, operand_low, closes_second, closes_other, three, Next, OnNext, sound_step, from_prefix, from_left, formed_second}

-- the state behind these tokens, where the machine goes over them
abbrev pub run : State Syntax → List Token → Option (State Syntax)
run s [] = Some s
run s (t ∷ ts) = on_step (advance trees s t) (λ next. run next ts) None

-- ---- what begins a text is read

fits_first : (ts : List Token) (ms rest : List Mark) → Fits ts ms rest → open_first ms ≤ 32
fits_first [] ms rest f = subst (λ (x : List Mark). open_first x ≤ 32) (sym f.0) f.1
fits_first (t ∷ ts) [] rest f = absurd f
fits_first (t ∷ ts) (m ∷ ms) rest f = f.1

-- a state that is followed has no more open than what follows
pub follows_low : (s end : State Syntax) (ms : List Mark) → Follows s ms end → open_in end ≡ 0 → open_in s ≤ open_first ms
follows_low s end [] f low = subst (λ (x : State Syntax). open_in x ≤ 0) (sym f) (omega (arith, low))
follows_low s end (m ∷ ms) f low = f.0

pub record Gone (s : State Syntax) (ts : List Token) (rest : List Mark) (end : State Syntax) : Type 0 where
  pub state : State Syntax
  pub runs : run s ts ≡ Some state
  pub follows : Follows state rest end

pub goes : (ts : List Token) (s end : State Syntax) (ms rest : List Mark) → Follows s ms end → open_in end ≡ 0 → Fits ts ms rest → Gone s ts rest end
goes [] s end ms rest f low fits = record { state = s; runs = refl; follows = subst (λ (x : List Mark). Follows s x end) fits.0 f }
goes (t ∷ ts) s end [] rest f low fits = absurd fits
goes (t ∷ ts) s end (m ∷ ms) rest (below, (next, (is, more))) low (same, shallow, fits) =
    let g = goes ts next end ms rest more low fits in
    let fit : open_in next ≤ 32 = omega (arith, follows_low next end ms more low, fits_first ts ms rest fits) in
    let moved : advance trees s t ≡ Some next = ap (λ (x : Token). if_shallow (step trees s x)) (sym same) ∙ (ap if_shallow is ∙ ap (λ (b : Bool). cond b (Some next) None) (le-leb (open_in next) 32 fit)) in
    record { state = g.state; runs = ap (λ (o : Option (State Syntax)). on_step o (λ n. run n ts) None) moved ∙ g.runs; follows = g.follows }

-- ---- what is read begins a text

-- the stack with an operand as one tree, with zeros for the arguments that lack
abbrev pub bracket_whole : Bracket Syntax → Syntax → Syntax
bracket_whole alone e = group e
bracket_whole size e = one Absolute e
bracket_whole (first op) e = two op e (number 0)
bracket_whole (second op a) e = two op a e
bracket_whole condition e = choose e (number 0) (number 0)
bracket_whole (chosen c) e = choose c e (number 0)
bracket_whole (other c a) e = choose c a e

abbrev pub whole : List (Frame Syntax) → Syntax → Syntax
whole [] e = e
whole (prefix op ∷ K) e = whole K (one op e)
whole (left op a ∷ K) e = whole K (two op a e)
whole (inside b ∷ K) e = whole K (bracket_whole b e)

-- the tokens that are added behind the operand
abbrev pub bracket_rest : ℕ → Bracket Syntax → List Mark
bracket_rest d alone = (token.Close, d) ∷ []
bracket_rest d size = (token.Close, d) ∷ []
bracket_rest d (first op) = (token.Comma, d) ∷ (token.Number 0, d) ∷ (token.Close, d) ∷ []
bracket_rest d (second op a) = (token.Close, d) ∷ []
bracket_rest d condition = (token.Comma, d) ∷ (token.Number 0, d) ∷ (token.Comma, d) ∷ (token.Number 0, d) ∷ (token.Close, d) ∷ []
bracket_rest d (chosen c) = (token.Comma, d) ∷ (token.Number 0, d) ∷ (token.Close, d) ∷ []
bracket_rest d (other c a) = (token.Close, d) ∷ []

abbrev pub whole_rest : List (Frame Syntax) → List Mark
whole_rest [] = (token.End, 0) ∷ []
whole_rest (prefix op ∷ K) = whole_rest K
whole_rest (left op a ∷ K) = whole_rest K
whole_rest (inside b ∷ K) = bracket_rest (suc (openers K)) b ++ whole_rest K

first_open : (K : List (Frame Syntax)) → open_first (whole_rest K) ≡ openers (bracketed K)
first_open [] = refl
first_open (prefix op ∷ K) = first_open K
first_open (left op a ∷ K) = first_open K
first_open (inside alone ∷ K) = refl
first_open (inside b ∷ K) = refl

bracket_formed : (b : Bracket Syntax) (e : Syntax) → GoodBracket b → IsFormed e → IsFormed (bracket_whole b e)
bracket_formed alone e g f = f
bracket_formed size e g f = (omega arith, f)
bracket_formed (first op) e g f = formed_second op e (number 0) g f (omega arith)
bracket_formed (second op a) e g f = formed_second op a e g.0 g.1 f
bracket_formed condition e g f = (f, omega arith, omega arith)
bracket_formed (chosen c) e g f = (g, f, omega arith)
bracket_formed (other c a) e g f = (g.0, g.1, f)

bracket_high : (b : Bracket Syntax) (e : Syntax) → GoodBracket b → level (bracket_whole b e) ≡ 7
bracket_high (first op) e g = (outside op g).high
bracket_high (second op a) e g = (outside op g.0).high
bracket_high b e g = refl

whole_formed : (K : List (Frame Syntax)) (e : Syntax) → Good K → IsFormed e → need K ≤ level e → IsFormed (whole K e)
whole_formed [] e g f n = f
whole_formed (prefix op ∷ K) e g f n = whole_formed K (one op e) g.2 (omega (arith, n, operand_low op), f) g.1
whole_formed (left op a ∷ K) e g f n = whole_formed K (two op a e) g.4 (g.2, omega (arith, n, (between op g.0).«right»), g.3, f) g.1
whole_formed (inside b ∷ K) e g f n = whole_formed K (bracket_whole b e) g.1 (bracket_formed b e g.0 f) (omega (arith, need_low K g.1, bracket_high b e g.0))

-- a bracket with its arguments is spelled by what is read, the operand and what is added
bracket_spelled : (d : ℕ) (b : Bracket Syntax) (e : Syntax) → GoodBracket b → spelled d (bracket_whole b e) ≡ (bracket_marks d b ++ spelled (suc d) e) ++ bracket_rest (suc d) b
bracket_spelled d alone e g = refl
bracket_spelled d size e g = refl
bracket_spelled d (first op) e g =
    closes_second op d e (number 0) g
    ∙ ap (λ (x : List Mark). (token.Sign op, d) ∷ (token.Open, d) ∷ x)
    (append_assoc (spelled (suc d) e ++ (token.Comma, suc d) ∷ []) ((token.Number 0, suc d) ∷ []) ((token.Close, suc d) ∷ []) ∙ append_assoc (spelled (suc d) e) ((token.Comma, suc d) ∷ []) _)
bracket_spelled d (second op a) e g = closes_second op d a e g.0
bracket_spelled d condition e g =
    ap (λ (x : List Mark). (token.If, d) ∷ (token.Open, d) ∷ x)
    (append_assoc (spelled (suc d) e ++ (token.Comma, suc d) ∷ (token.Number 0, suc d) ∷ []) _ _ ∙ append_assoc (spelled (suc d) e) _ _)
bracket_spelled d (chosen c) e g =
    ap (λ (x : List Mark). (token.If, d) ∷ (token.Open, d) ∷ x)
    (append_assoc (spelled (suc d) c ++ (token.Comma, suc d) ∷ spelled (suc d) e) _ _
    ∙ ap (λ (x : List Mark). x ++ bracket_rest (suc d) (chosen c)) (sym (append_assoc (spelled (suc d) c) ((token.Comma, suc d) ∷ []) (spelled (suc d) e))))
bracket_spelled d (other c a) e g = closes_other d c a e

whole_marked : (K : List (Frame Syntax)) (e : Syntax) → Good K → marked (whole K e) ≡ (stack_marks K ++ spelled (openers K) e) ++ whole_rest K
whole_marked [] e g = refl
whole_marked (prefix op ∷ K) e g = whole_marked K (one op e) g.2 ∙ ap (λ (x : List Mark). x ++ whole_rest K) (from_prefix op K e g.0)
whole_marked (left op a ∷ K) e g = whole_marked K (two op a e) g.4 ∙ ap (λ (x : List Mark). x ++ whole_rest K) (from_left op K a e g.0)
whole_marked (inside b ∷ K) e g =
    whole_marked K (bracket_whole b e) g.1
    ∙ (ap (λ (x : List Mark). (stack_marks K ++ x) ++ whole_rest K) (bracket_spelled (openers K) b e g.0)
    ∙ (ap (λ (x : List Mark). x ++ whole_rest K) (three (stack_marks K) (bracket_marks (openers K) b) (spelled (suc (openers K)) e) (bracket_rest (suc (openers K)) b))
    ∙ append_assoc (stack_marks (inside b ∷ K) ++ spelled (suc (openers K)) e) (bracket_rest (suc (openers K)) b) (whole_rest K)))

-- a text that begins with what a state has read, with no more open behind it than surely is
pub record Completes (s : State Syntax) : Type 0 where
  pub tree : Syntax
  pub formed : IsFormed tree
  pub rest : List Mark
  pub spelling : marked tree ≡ state_marks s ++ rest
  pub low : open_first rest ≡ open_in s

name_good : (b : Bracket Syntax) → IsName b → GoodBracket b
name_good alone h = absurd h
name_good size h = tt
name_good (first op) h = h
name_good (second op a) h = absurd h
name_good condition h = tt
name_good (chosen c) h = absurd h
name_good (other c a) h = absurd h

name_fresh : (b : Bracket Syntax) (d : ℕ) → IsName b → given_marks d b ≡ []
name_fresh alone d h = absurd h
name_fresh size d h = refl
name_fresh (first op) d h = refl
name_fresh (second op a) d h = absurd h
name_fresh condition d h = refl
name_fresh (chosen c) d h = absurd h
name_fresh (other c a) d h = absurd h

pub completes : (s : State Syntax) → GoodState s → Completes s
completes (want K) g = record {
  tree = whole K (number 0);
  formed = whole_formed K (number 0) g (omega arith) (omega (arith, need_low K g));
  rest = (token.Number 0, openers K) ∷ whole_rest K;
  spelling = whole_marked K (number 0) g ∙ append_assoc (stack_marks K) ((token.Number 0, openers K) ∷ []) (whole_rest K);
  low = refl;
}
completes (named b K) g =
    let open_good : Good (inside b ∷ K) = (name_good b g.0, g.1) in
    record {
      tree = whole (inside b ∷ K) (number 0);
      formed = whole_formed (inside b ∷ K) (number 0) open_good (omega arith) (omega arith);
      rest = (token.Open, openers K) ∷ (token.Number 0, suc (openers K)) ∷ whole_rest (inside b ∷ K);
      spelling =
          whole_marked (inside b ∷ K) (number 0) open_good
          ∙ (ap (λ (x : List Mark). ((stack_marks K ++ (name_marks (openers K) b ++ (token.Open, openers K) ∷ x)) ++ (token.Number 0, suc (openers K)) ∷ []) ++ whole_rest (inside b ∷ K)) (name_fresh b (suc (openers K)) g.0)
          ∙ (append_assoc (stack_marks K ++ (name_marks (openers K) b ++ (token.Open, openers K) ∷ [])) _ _
          ∙ (ap (λ (x : List Mark). x ++ (token.Number 0, suc (openers K)) ∷ whole_rest (inside b ∷ K)) (sym (append_assoc (stack_marks K) (name_marks (openers K) b) _))
          ∙ append_assoc (stack_marks K ++ name_marks (openers K) b) _ _)));
      low = refl;
    }
completes (have K e) g = record {
  tree = whole K e;
  formed = whole_formed K e g.0 g.1 (omega (arith, need_low K g.0, g.2));
  rest = whole_rest K;
  spelling = whole_marked K e g.0;
  low = first_open K;
}
completes (done e) g = record { tree = e; formed = g; rest = []; spelling = sym (append-nil (marked e)); low = refl }

-- what the machine has gone over
pub record Read (s : State Syntax) (ts : List Token) : Type 0 where
  pub good : GoodState s
  pub low : height s ≤ 32
  pub surely : open_in s ≤ 32
  pub fits : Fits ts (state_marks s) []

shallow_next : (s : State Syntax) (t : Token) (next : State Syntax) (o : Option (State Syntax)) → OnNext s t o → if_shallow o ≡ Some next → Next s t next × (open_in next ≤ 32)
shallow_next s t next None h e = absurd (none-some next e)
shallow_next s t next (Some x) h e =
    cond_both (nat_le (open_in x) 32) (Some x) None (λ (o : Option (State Syntax)). o ≡ Some next → (nat_le (open_in x) 32 ≡ true → open_in x ≤ 32) → Next s t next × (open_in next ≤ 32))
    (λ b is le. let same : x ≡ next = same_Some x next is in subst (λ (y : State Syntax). Next s t y × (open_in y ≤ 32)) same (h, le b))
    (λ b is le. absurd (none-some next is)) e (leb-true (open_in x) 32)

fits_push : (ts : List Token) (ms : List Mark) (t : Token) (d : ℕ) → d ≤ 32 → Fits ts ms [] → Fits (ts ++ t ∷ []) (ms ++ (t, d) ∷ []) []
fits_push [] ms t d h f = subst (λ (x : List Mark). Fits (t ∷ []) (x ++ (t, d) ∷ []) []) (sym f.0) (refl, h, (refl, omega arith))
fits_push (u ∷ ts) [] t d h f = absurd f
fits_push (u ∷ ts) (m ∷ ms) t d h f = (f.0, f.1, fits_push ts ms t d h f.2)

fits_more : (ts : List Token) (ms rest : List Mark) → open_first rest ≤ 32 → Fits ts ms [] → Fits ts (ms ++ rest) rest
fits_more [] ms rest h f = (ap (λ (x : List Mark). x ++ rest) f.0, h)
fits_more (t ∷ ts) [] rest h f = absurd f
fits_more (t ∷ ts) (m ∷ ms) rest h f = (f.0, f.1, fits_more ts ms rest h f.2)

pub read_more : (s : State Syntax) (ts : List Token) (t : Token) (next : State Syntax) → Read s ts → advance trees s t ≡ Some next → Read next (ts ++ t ∷ [])
read_more s ts t next r e =
    let n = shallow_next s t next (step trees s t) (sound_step s t r.good) e in
    record {
      good = n.0.good;
      low = n.0.low 32 r.low n.1;
      surely = n.1;
      fits = subst (λ (x : List Mark). Fits (ts ++ t ∷ []) x []) (sym n.0.marks) (fits_push ts (state_marks s) t n.0.count (omega (arith, n.0.counted, r.low)) r.fits);
    }

going : (ts before : List Token) (t : Token) (s end : State Syntax) (o : Option (State Syntax)) → Read s before → advance trees s t ≡ o
    → ((next : State Syntax) → Read next (before ++ t ∷ []) → run next ts ≡ Some end → Read end ((before ++ t ∷ []) ++ ts))
    → on_step o (λ next. run next ts) None ≡ Some end → Read end (before ++ t ∷ ts)
going ts before t s end None r is more e = absurd (none-some end e)
going ts before t s end (Some next) r is more e =
    subst (λ (x : List Token). Read end x) (append_assoc before (t ∷ []) ts) (more next (read_more s before t next r is) e)

pub run_read : (ts before : List Token) (s end : State Syntax) → Read s before → run s ts ≡ Some end → Read end (before ++ ts)
run_read [] before s end r e = subst (λ (x : List Token). Read end x) (sym (append-nil before)) (subst (λ (x : State Syntax). Read x before) (same_Some s end e) r)
run_read (t ∷ ts) before s end r e = going ts before t s end (advance trees s t) r refl (λ next q is. run_read ts (before ++ t ∷ []) next end q is) e

pub begun : Read (want []) []
begun = record { good = tt; low = omega arith; surely = omega arith; fits = (refl, omega arith) }

-- what is read begins a text, behind which no more is open than surely is
pub starts : (s : State Syntax) (ts : List Token) → Read s ts → Starts ts
starts s ts r =
    let c = completes s r.good in
    record {
      tree = c.tree;
      formed = c.formed;
      rest = c.rest;
      fits = subst (λ (x : List Mark). Fits ts x c.rest) (sym c.spelling) (fits_more ts (state_marks s) c.rest (omega (arith, c.low, r.surely)) r.fits);
    }

pub starts_low : (s : State Syntax) (ts : List Token) (r : Read s ts) → open_first (starts s ts r).rest ≡ open_in s
unfolding starts
starts_low s ts r = (completes s r.good).low
