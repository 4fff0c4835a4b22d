-- Each text of the grammar is read to its end, and to its tree.
use Rattle.std.proofs.Common.{◌≡◌, ℕ, suc, ◌≤◌, ◌<◌, Bool, true, cond, List, [], ◌∷◌, ◌++◌, Some, None, refl, ap, sym, subst, ◌∙◌, arith}
use Rattle.std.proofs.lemmas.Bool.{le-leb, lt-leb, false≢true}
use Rattle.jet_items.specs.Ranges.{most_time}
use Rattle.jet_expr.specs.Syntax.{Syntax, number, read, group, one, two, choose, level, level_of, unary_level, left_least, right_least, is_infix, IsFormed, Mark, spelled, called, marked}
use Rattle.jet_expr.specs.Machine.{Maker, Bracket, alone, size, first, second, condition, chosen, other, Frame, prefix, left, inside, State, want, named, have, done, openers, bracketed, open_in, need, infix_least, reduce, close, comma, on_sign, on_close, on_comma, on_end, closed, gone_on, step}
use Rattle.jet_expr.specs.declared.operator.Unary.TheVariants.{Negate, Not, Absolute}
use Rattle.jet_expr.specs.declared.operator.Operator.{Operator}
use Rattle.jet_expr.specs.declared.operator.Operator.TheVariants.{Add, And, Or, Least, Greatest}
use Rattle.jet_expr.specs.declared.token.Token.{Token}
use Rattle.jet_expr.specs.declared.token.Token.TheVariants as token

-- trees as they stand in the text
abbrev pub trees : Maker Syntax
trees = record { number = number; read = read; group = group; one = one; two = two; choose = choose }

-- the machine goes over these tokens to that state, and counts no more open openers than the tokens say
abbrev pub Follows : State Syntax → List Mark → State Syntax → Type 0
Follows s [] end = s ≡ end
Follows s (m ∷ ms) end = (open_in s ≤ m.1) × ((next : State Syntax) × ((step trees s m.0 ≡ Some next) × Follows next ms end))

pub follows_append : (xs ys : List Mark) (s mid end : State Syntax) → Follows s xs mid → Follows mid ys end → Follows s (xs ++ ys) end
follows_append [] ys s mid end p q = subst (λ (x : State Syntax). Follows x ys end) (sym p) q
follows_append (m ∷ xs) ys s mid end (low, (next, (is, more))) q = (low, (next, (is, follows_append xs ys next mid end more q)))

-- the machine reads the tree's tokens, and what then comes finds the whole tree
pub record Reads (K : List (Frame Syntax)) (ms : List Mark) (tree : Syntax) : Type 0 where
  pub frames : List (Frame Syntax)
  pub operand : Syntax
  pub follows : Follows (want K) ms (have frames operand)
  pub reduces : (least : ℕ) → least ≤ level tree → reduce trees least frames operand ≡ reduce trees least K tree

bracketed_is : (K : List (Frame Syntax)) (e : Syntax) → (reduce trees 0 K e).0 ≡ bracketed K
bracketed_is [] e = refl
bracketed_is (prefix op ∷ K) e = ap (λ (b : Bool). (cond b (reduce trees 0 K (one op e)) (prefix op ∷ K, e)).0) (le-leb 0 (unary_level op) (omega arith)) ∙ bracketed_is K (one op e)
bracketed_is (left op a ∷ K) e = ap (λ (b : Bool). (cond b (reduce trees 0 K (two op a e)) (left op a ∷ K, e)).0) (le-leb 0 (level_of op) (omega arith)) ∙ bracketed_is K (two op a e)
bracketed_is (inside b ∷ K) e = refl

bracketed_low : (K : List (Frame Syntax)) → openers (bracketed K) ≤ openers K
bracketed_low [] = omega arith
bracketed_low (prefix op ∷ K) = omega (arith, bracketed_low K)
bracketed_low (left op a ∷ K) = bracketed_low K
bracketed_low (inside b ∷ K) = omega arith

same_brackets : (K : List (Frame Syntax)) (ms : List Mark) (tree : Syntax) (r : Reads K ms tree) → bracketed r.frames ≡ bracketed K
same_brackets K ms tree r = sym (bracketed_is r.frames r.operand) ∙ (ap (λ (x : List (Frame Syntax) × Syntax). x.0) (r.reduces 0 (omega arith)) ∙ bracketed_is K tree)

have_low : (K : List (Frame Syntax)) (ms : List Mark) (tree : Syntax) (r : Reads K ms tree) → openers (bracketed r.frames) ≤ openers K
have_low K ms tree r = subst (λ (x : List (Frame Syntax)). openers x ≤ openers K) (sym (same_brackets K ms tree r)) (bracketed_low K)

-- ---- brackets

at_close : (b : Bracket Syntax) (K : List (Frame Syntax)) (ms : List Mark) (a tree : Syntax) (r : Reads (inside b ∷ K) ms a) → close trees b a ≡ Some tree
    → Follows (have r.frames r.operand) ((token.Close, suc (openers K)) ∷ []) (have K tree)
at_close b K ms a tree r is = (
  have_low (inside b ∷ K) ms a r,
  (
    have K tree,
    (ap (λ (x : List (Frame Syntax) × Syntax). on_close trees x.0 x.1) (r.reduces 0 (omega arith)) ∙ ap (closed K) is, refl),
  ),
)

at_comma : (b next : Bracket Syntax) (K : List (Frame Syntax)) (ms more : List Mark) (a : Syntax) (end : State Syntax) (r : Reads (inside b ∷ K) ms a) → comma b a ≡ Some next
    → Follows (want (inside next ∷ K)) more end → Follows (have r.frames r.operand) ((token.Comma, suc (openers K)) ∷ more) end
at_comma b next K ms more a end r is rest = (
  have_low (inside b ∷ K) ms a r,
  (
    want (inside next ∷ K),
    (ap (λ (x : List (Frame Syntax) × Syntax). on_comma x.0 x.1) (r.reduces 0 (omega arith)) ∙ ap (gone_on K) is, rest),
  ),
)

-- the last argument and the end of its bracket
last_argument : (b : Bracket Syntax) (K : List (Frame Syntax)) (ms : List Mark) (a tree : Syntax) (r : Reads (inside b ∷ K) ms a) → close trees b a ≡ Some tree
    → Follows (want (inside b ∷ K)) (ms ++ (token.Close, suc (openers K)) ∷ []) (have K tree)
last_argument b K ms a tree r is = follows_append ms _ _ (have r.frames r.operand) _ r.follows (at_close b K ms a tree r is)

-- a whole call, from its name on
call : (name : Token) (b : Bracket Syntax) (K : List (Frame Syntax)) (ms : List Mark) (tree : Syntax)
    → step trees (want K) name ≡ Some (named b K) → level tree ≡ 7 → Follows (want (inside b ∷ K)) (ms ++ (token.Close, suc (openers K)) ∷ []) (have K tree)
    → Reads K (called name (openers K) ms) tree
call name b K ms tree is high inner = record {
  frames = K;
  operand = tree;
  follows = (omega arith, (named b K, (is, (omega arith, (want (inside b ∷ K), (refl, inner))))));
  reduces = λ least low. refl;
}

-- ---- operators

pub strict : (op : Operator) → level_of op < infix_least op
strict Add = omega arith
strict op = omega arith

pub record IsBetween (op : Operator) : Type 0 where
  pub «left» : level_of op ≤ left_least op
  pub low : level_of op ≤ 5
  pub top : left_least op ≤ 5
  pub «right» : infix_least op ≡ right_least op
  pub apart : 2 ≤ level_of op → 3 ≤ left_least op

pub between : (op : Operator) → is_infix op ≡ true → IsBetween op
between Least e = absurd (false≢true e)
between Greatest e = absurd (false≢true e)
between And e = record { «left» = omega arith; low = omega arith; top = omega arith; «right» = refl; apart = λ h. absurd (omega (arith, h)) }
between Or e = record { «left» = omega arith; low = omega arith; top = omega arith; «right» = refl; apart = λ h. absurd (omega (arith, h)) }
between op e = record { «left» = omega arith; low = omega arith; top = omega arith; «right» = refl; apart = λ h. omega arith }

-- an operator that the stack takes leaves the stack as it is
stays : (op : Operator) (K : List (Frame Syntax)) (e : Syntax) → is_infix op ≡ true → need K ≤ level_of op → reduce trees (left_least op) K e ≡ (K, e)
stays op [] e is h = refl
stays op (prefix Not ∷ K) e is h = ap (λ (b : Bool). cond b (reduce trees (left_least op) K (one Not e)) (prefix Not ∷ K, e)) (lt-leb (left_least op) 2 ((between op is).apart h))
stays op (prefix Negate ∷ K) e is h = absurd (omega (arith, (between op is).low, h))
stays op (prefix Absolute ∷ K) e is h = absurd (omega (arith, (between op is).low, h))
stays op (left o a ∷ K) e is h =
    ap (λ (b : Bool). cond b (reduce trees (left_least op) K (two o a e)) (left o a ∷ K, e)) (lt-leb (left_least op) (level_of o) (omega (arith, strict o, h, (between op is).«left»)))
stays op (inside b ∷ K) e is h = refl

step_sign : (op : Operator) (K : List (Frame Syntax)) (ms : List Mark) (a : Syntax) (r : Reads K ms a) → is_infix op ≡ true → need K ≤ level_of op → left_least op ≤ level a
    → step trees (have r.frames r.operand) (token.Sign op) ≡ Some (want (left op a ∷ K))
step_sign op K ms a r is h low =
    ap (λ (b : Bool). cond b (on_sign op (reduce trees (left_least op) r.frames r.operand)) None) is
    ∙ (ap (on_sign op) (r.reduces (left_least op) low ∙ stays op K a is h)
    ∙ ap (λ (b : Bool). cond b (Some (want (left op a ∷ K))) None) (le-leb (need K) (level_of op) h))

reads_infix : (op : Operator) (K : List (Frame Syntax)) (ms ns : List Mark) (a b : Syntax) → is_infix op ≡ true → need K ≤ level_of op
    → left_least op ≤ level a → right_least op ≤ level b → Reads K ms a → Reads (left op a ∷ K) ns b → Reads K (ms ++ (token.Sign op, openers K) ∷ ns) (two op a b)
reads_infix op K ms ns a b is h low high r q = record {
  frames = q.frames;
  operand = q.operand;
  follows = follows_append ms _ _ (have r.frames r.operand) _ r.follows (have_low K ms a r, (want (left op a ∷ K), (step_sign op K ms a r is h low, q.follows)));
  reduces = λ least le.
      q.reduces least (omega (arith, le, strict op, (between op is).«right», high))
      ∙ ap (λ (t : Bool). cond t (reduce trees least K (two op a b)) (left op a ∷ K, b)) (le-leb least (level_of op) le);
}

-- ---- all trees

reads_call : (op : Operator) (K : List (Frame Syntax)) (ms ns : List Mark) (a b : Syntax) → level_of op ≡ 7 → step trees (want K) (token.Sign op) ≡ Some (named (first op) K)
    → Reads (inside (first op) ∷ K) ms a → Reads (inside (second op a) ∷ K) ns b → Reads K (called (token.Sign op) (openers K) (ms ++ (token.Comma, suc (openers K)) ∷ ns)) (two op a b)
reads_call op K ms ns a b high is r q =
    call (token.Sign op) (first op) K _ (two op a b) is high
    (follows_append (ms ++ (token.Comma, suc (openers K)) ∷ ns) _ _ (have q.frames q.operand) _
    (follows_append ms _ _ (have r.frames r.operand) _ r.follows (at_comma (first op) (second op a) K ms ns a (have q.frames q.operand) r refl q.follows))
    (at_close (second op a) K ns b (two op a b) q refl))

reads_choice : (K : List (Frame Syntax)) (ls ms ns : List Mark) (c a b : Syntax)
    → Reads (inside condition ∷ K) ls c → Reads (inside (chosen c) ∷ K) ms a → Reads (inside (other c a) ∷ K) ns b
    → Reads K (called token.If (openers K) (ls ++ (token.Comma, suc (openers K)) ∷ ms ++ (token.Comma, suc (openers K)) ∷ ns)) (choose c a b)
reads_choice K ls ms ns c a b p r q =
    call token.If condition K _ (choose c a b) refl refl
    (follows_append (ls ++ (token.Comma, suc (openers K)) ∷ ms ++ (token.Comma, suc (openers K)) ∷ ns) _ _ (have q.frames q.operand) _
    (follows_append (ls ++ (token.Comma, suc (openers K)) ∷ ms) _ _ (have r.frames r.operand) _
    (follows_append ls _ _ (have p.frames p.operand) _ p.follows (at_comma condition (chosen c) K ls ms c (have r.frames r.operand) p refl r.follows))
    (at_comma (chosen c) (other c a) K ms ns a (have q.frames q.operand) r refl q.follows))
    (at_close (other c a) K ns b (choose c a b) q refl))

pub reads : (tree : Syntax) (K : List (Frame Syntax)) → IsFormed tree → need K ≤ level tree → Reads K (spelled (openers K) tree) tree
reads (number n) K f h = record {
  frames = K;
  operand = number n;
  follows = (omega arith, (have K (number n), (ap (λ (b : Bool). cond b (Some (have K (number n))) None) (le-leb n most_time f), refl)));
  reduces = λ least low. refl;
}
reads (read x) K f h = record { frames = K; operand = read x; follows = (omega arith, (have K (read x), (refl, refl))); reduces = λ least low. refl }
reads (group a) K f h =
    let r = reads a (inside alone ∷ K) f (omega arith) in
    record {
      frames = K;
      operand = group a;
      follows = (omega arith, (want (inside alone ∷ K), (refl, last_argument alone K _ a (group a) r refl)));
      reduces = λ least low. refl;
    }
reads (one Not a) K f h =
    let r = reads a (prefix Not ∷ K) f.1 f.0 in
    record {
      frames = r.frames;
      operand = r.operand;
      follows = (omega arith, (want (prefix Not ∷ K), (ap (λ (b : Bool). cond b (Some (want (prefix Not ∷ K))) None) (le-leb (need K) 2 h), r.follows)));
      reduces = λ least low. r.reduces least (omega (arith, low, f.0)) ∙ ap (λ (t : Bool). cond t (reduce trees least K (one Not a)) (prefix Not ∷ K, a)) (le-leb least 2 low);
    }
reads (one Negate a) K f h =
    let r = reads a (prefix Negate ∷ K) f.1 f.0 in
    record {
      frames = r.frames;
      operand = r.operand;
      follows = (omega arith, (want (prefix Negate ∷ K), (refl, r.follows)));
      reduces = λ least low. r.reduces least (omega (arith, low, f.0)) ∙ ap (λ (t : Bool). cond t (reduce trees least K (one Negate a)) (prefix Negate ∷ K, a)) (le-leb least 6 low);
    }
reads (one Absolute a) K f h =
    let r = reads a (inside size ∷ K) f.1 (omega arith) in
    call token.Absolute size K _ (one Absolute a) refl refl (last_argument size K _ a (one Absolute a) r refl)
reads (two Least a b) K f h = reads_call Least K _ _ a b refl refl (reads a (inside (first Least) ∷ K) f.2 (omega arith)) (reads b (inside (second Least a) ∷ K) f.3 (omega arith))
reads (two Greatest a b) K f h = reads_call Greatest K _ _ a b refl refl (reads a (inside (first Greatest) ∷ K) f.2 (omega arith)) (reads b (inside (second Greatest a) ∷ K) f.3 (omega arith))
reads (two op a b) K f h = reads_infix op K _ _ a b refl h f.0 f.1 (reads a K f.2 (omega (arith, h, f.0))) (reads b (left op a ∷ K) f.3 f.1)
reads (choose c a b) K f h =
    reads_choice K _ _ _ c a b (reads c (inside condition ∷ K) f.0 (omega arith)) (reads a (inside (chosen c) ∷ K) f.1 (omega arith)) (reads b (inside (other c a) ∷ K) f.2 (omega arith))

-- the tokens of a whole text lead to its tree
pub reads_all : (tree : Syntax) → IsFormed tree → Follows (want []) (marked tree) (done tree)
reads_all tree f =
    let r = reads tree [] f (omega arith) in
    follows_append (spelled 0 tree) _ _ (have r.frames r.operand) _ r.follows
    (have_low [] _ tree r, (done tree, (ap (λ (x : List (Frame Syntax) × Syntax). on_end x.0 x.1) (r.reduces 0 (omega arith)), refl)))
