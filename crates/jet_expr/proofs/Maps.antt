-- The machine reads terms as it reads trees.
use Rattle.std.proofs.Common.{◌≡◌, ℕ, suc, Bool, true, false, cond, List, [], ◌∷◌, Option, Some, None, Result, Ok, Err, refl, ap, ◌∙◌}
use Rattle.std.specs.Prelude.{nat_le, not, option_map}
use Rattle.jet_items.specs.Ranges.{most_time}
use Rattle.jet_expr.specs.Term.{Term}
use Rattle.jet_expr.specs.Syntax.{Syntax, number, one, two, meaning, level_of, unary_level, left_least, is_infix}
use Rattle.jet_expr.specs.Machine.{terms, Bracket, alone, size, first, second, condition, chosen, other, Frame, prefix, left, inside, State, want, named, have, done, openers, bracketed, open_in, need, reduce, close, comma, on_want, on_named, on_have, on_sign, on_close, on_comma, on_end, closed, gone_on, step, if_shallow, advance, fault_at, is_full, ended, on_step, outcome}
use Rattle.jet_expr.specs.declared.fault.ExprFault.{ExprFault}
use Rattle.jet_expr.specs.declared.operator.Unary.TheVariants.{Not}
use Rattle.jet_expr.specs.declared.operator.Operator.{Operator}
use Rattle.jet_expr.specs.declared.operator.Operator.TheVariants.{Subtract, Least, Greatest}
use Rattle.jet_expr.specs.declared.token.Token.{Token}
use Rattle.jet_expr.specs.declared.token.Token.TheVariants as token
use Rattle.jet_expr.proofs.Follows.{trees}

abbrev pub bracket_terms : Bracket Syntax → Bracket Term
bracket_terms alone = alone
bracket_terms size = size
bracket_terms (first op) = first op
bracket_terms (second op a) = second op (meaning a)
bracket_terms condition = condition
bracket_terms (chosen c) = chosen (meaning c)
bracket_terms (other c a) = other (meaning c) (meaning a)

abbrev pub stack_terms : List (Frame Syntax) → List (Frame Term)
stack_terms [] = []
stack_terms (prefix op ∷ K) = prefix op ∷ stack_terms K
stack_terms (left op a ∷ K) = left op (meaning a) ∷ stack_terms K
stack_terms (inside b ∷ K) = inside (bracket_terms b) ∷ stack_terms K

abbrev pub state_terms : State Syntax → State Term
state_terms (want K) = want (stack_terms K)
state_terms (named b K) = named (bracket_terms b) (stack_terms K)
state_terms (have K e) = have (stack_terms K) (meaning e)
state_terms (done e) = done (meaning e)

abbrev pub pair_terms : List (Frame Syntax) × Syntax → List (Frame Term) × Term
pair_terms r = (stack_terms r.0, meaning r.1)

abbrev pub result_terms : Result Syntax ExprFault → Result Term ExprFault
result_terms (Ok e) = Ok (meaning e)
result_terms (Err f) = Err f

cond_map : {A B : Type 0} (f : A → B) (b : Bool) (x y : A) (u v : B) → u ≡ f x → v ≡ f y → cond b u v ≡ f (cond b x y)
cond_map f true x y u v p q = p
cond_map f false x y u v p q = q

openers_terms : (K : List (Frame Syntax)) → openers (stack_terms K) ≡ openers K
openers_terms [] = refl
openers_terms (prefix op ∷ K) = ap suc (openers_terms K)
openers_terms (left op a ∷ K) = openers_terms K
openers_terms (inside b ∷ K) = ap suc (openers_terms K)

bracketed_terms : (K : List (Frame Syntax)) → bracketed (stack_terms K) ≡ stack_terms (bracketed K)
bracketed_terms [] = refl
bracketed_terms (prefix op ∷ K) = bracketed_terms K
bracketed_terms (left op a ∷ K) = bracketed_terms K
bracketed_terms (inside b ∷ K) = refl

open_terms : (s : State Syntax) → open_in (state_terms s) ≡ open_in s
open_terms (want K) = openers_terms K
open_terms (named b K) = openers_terms K
open_terms (have K e) = ap openers (bracketed_terms K) ∙ openers_terms (bracketed K)
open_terms (done e) = refl

need_terms : (K : List (Frame Syntax)) → need (stack_terms K) ≡ need K
need_terms [] = refl
need_terms (prefix op ∷ K) = refl
need_terms (left op a ∷ K) = refl
need_terms (inside b ∷ K) = refl

reduce_terms : (least : ℕ) (K : List (Frame Syntax)) (e : Syntax) → reduce terms least (stack_terms K) (meaning e) ≡ pair_terms (reduce trees least K e)
reduce_terms least [] e = refl
reduce_terms least (prefix op ∷ K) e =
    cond_map pair_terms (nat_le least (unary_level op)) (reduce trees least K (one op e)) (prefix op ∷ K, e) _ _ (reduce_terms least K (one op e)) refl
reduce_terms least (left op a ∷ K) e =
    cond_map pair_terms (nat_le least (level_of op)) (reduce trees least K (two op a e)) (left op a ∷ K, e) _ _ (reduce_terms least K (two op a e)) refl
reduce_terms least (inside b ∷ K) e = refl

want_terms : (K : List (Frame Syntax)) (t : Token) → on_want terms (stack_terms K) t ≡ option_map state_terms (on_want trees K t)
want_terms K (token.Number n) = cond_map (option_map state_terms) (nat_le n most_time) (Some (have K (number n))) None _ _ refl refl
want_terms K (token.Read f) = refl
want_terms K (token.Sign Subtract) = refl
want_terms K (token.Sign Least) = refl
want_terms K (token.Sign Greatest) = refl
want_terms K token.Not =
    ap (λ (n : ℕ). cond (nat_le n 2) (Some (want (prefix Not ∷ stack_terms K))) None) (need_terms K)
    ∙ cond_map (option_map state_terms) (nat_le (need K) 2) (Some (want (prefix Not ∷ K))) None _ _ refl refl
want_terms K token.Absolute = refl
want_terms K token.If = refl
want_terms K token.Open = refl
want_terms K t = refl

named_terms : (b : Bracket Syntax) (K : List (Frame Syntax)) (t : Token) → on_named (bracket_terms b) (stack_terms K) t ≡ option_map state_terms (on_named b K t)
named_terms b K token.Open = refl
named_terms b K t = refl

sign_terms : (op : Operator) (r : List (Frame Syntax) × Syntax) → on_sign op (pair_terms r) ≡ option_map state_terms (on_sign op r)
sign_terms op r =
    ap (λ (n : ℕ). cond (nat_le n (level_of op)) (Some (want (left op (meaning r.1) ∷ stack_terms r.0))) None) (need_terms r.0)
    ∙ cond_map (option_map state_terms) (nat_le (need r.0) (level_of op)) (Some (want (left op r.1 ∷ r.0))) None _ _ refl refl

bracket_close : (K : List (Frame Syntax)) (b : Bracket Syntax) (e : Syntax) → closed (stack_terms K) (close terms (bracket_terms b) (meaning e)) ≡ option_map state_terms (closed K (close trees b e))
bracket_close K alone e = refl
bracket_close K b e = refl

close_terms : (K : List (Frame Syntax)) (e : Syntax) → on_close terms (stack_terms K) (meaning e) ≡ option_map state_terms (on_close trees K e)
close_terms [] e = refl
close_terms (prefix op ∷ K) e = refl
close_terms (left op a ∷ K) e = refl
close_terms (inside b ∷ K) e = bracket_close K b e

bracket_comma : (K : List (Frame Syntax)) (b : Bracket Syntax) (e : Syntax) → gone_on (stack_terms K) (comma (bracket_terms b) (meaning e)) ≡ option_map state_terms (gone_on K (comma b e))
bracket_comma K alone e = refl
bracket_comma K b e = refl

comma_terms : (K : List (Frame Syntax)) (e : Syntax) → on_comma (stack_terms K) (meaning e) ≡ option_map state_terms (on_comma K e)
comma_terms [] e = refl
comma_terms (prefix op ∷ K) e = refl
comma_terms (left op a ∷ K) e = refl
comma_terms (inside b ∷ K) e = bracket_comma K b e

end_terms : (K : List (Frame Syntax)) (e : Syntax) → on_end (stack_terms K) (meaning e) ≡ option_map state_terms (on_end K e)
end_terms [] e = refl
end_terms (prefix op ∷ K) e = refl
end_terms (left op a ∷ K) e = refl
end_terms (inside b ∷ K) e = refl

have_terms : (K : List (Frame Syntax)) (e : Syntax) (t : Token) → on_have terms (stack_terms K) (meaning e) t ≡ option_map state_terms (on_have trees K e t)
have_terms K e (token.Sign op) =
    cond_map (option_map state_terms) (is_infix op) (on_sign op (reduce trees (left_least op) K e)) None _ _
    (ap (on_sign op) (reduce_terms (left_least op) K e) ∙ sign_terms op (reduce trees (left_least op) K e)) refl
have_terms K e token.Close =
    ap (λ (r : List (Frame Term) × Term). on_close terms r.0 r.1) (reduce_terms 0 K e) ∙ close_terms (reduce trees 0 K e).0 (reduce trees 0 K e).1
have_terms K e token.Comma =
    ap (λ (r : List (Frame Term) × Term). on_comma r.0 r.1) (reduce_terms 0 K e) ∙ comma_terms (reduce trees 0 K e).0 (reduce trees 0 K e).1
have_terms K e token.End =
    ap (λ (r : List (Frame Term) × Term). on_end r.0 r.1) (reduce_terms 0 K e) ∙ end_terms (reduce trees 0 K e).0 (reduce trees 0 K e).1
have_terms K e t = refl

step_terms : (s : State Syntax) (t : Token) → step terms (state_terms s) t ≡ option_map state_terms (step trees s t)
step_terms (want K) t = want_terms K t
step_terms (named b K) t = named_terms b K t
step_terms (have K e) t = have_terms K e t
step_terms (done e) t = refl

shallow_terms : (o : Option (State Syntax)) → if_shallow (option_map state_terms o) ≡ option_map state_terms (if_shallow o)
shallow_terms None = refl
shallow_terms (Some s) =
    ap (λ (n : ℕ). cond (nat_le n 32) (Some (state_terms s)) None) (open_terms s)
    ∙ cond_map (option_map state_terms) (nat_le (open_in s) 32) (Some s) None _ _ refl refl

advance_terms : (s : State Syntax) (t : Token) → advance terms (state_terms s) t ≡ option_map state_terms (advance trees s t)
advance_terms s t = ap if_shallow (step_terms s t) ∙ shallow_terms (step trees s t)

full_terms : (s : State Syntax) → is_full (state_terms s) ≡ is_full s
full_terms s = ap (λ (n : ℕ). not (nat_le n 31)) (open_terms s)

ended_terms : (s : State Syntax) → ended (state_terms s) ≡ result_terms (ended s)
ended_terms (want K) = refl
ended_terms (named b K) = refl
ended_terms (have K e) = refl
ended_terms (done e) = refl

steps : (ps : List (ℕ × Token)) (f : ExprFault) (o : Option (State Syntax)) → ((next : State Syntax) → outcome terms (state_terms next) ps ≡ result_terms (outcome trees next ps))
    → on_step (option_map state_terms o) (λ next. outcome terms next ps) (Err f) ≡ result_terms (on_step o (λ next. outcome trees next ps) (Err f))
steps ps f None more = refl
steps ps f (Some next) more = more next

pub outcome_terms : (s : State Syntax) (ps : List (ℕ × Token)) → outcome terms (state_terms s) ps ≡ result_terms (outcome trees s ps)
outcome_terms s [] = ended_terms s
outcome_terms s (p ∷ ps) =
    ap (λ (o : Option (State Term)). on_step o (λ next. outcome terms next ps) (Err (fault_at (is_full (state_terms s)) p.0 p.1))) (advance_terms s p.1)
    ∙ (ap (λ (b : Bool). on_step (option_map state_terms (advance trees s p.1)) (λ next. outcome terms next ps) (Err (fault_at b p.0 p.1))) (full_terms s)
    ∙ steps ps (fault_at (is_full s) p.0 p.1) (advance trees s p.1) (λ next. outcome_terms next ps))
