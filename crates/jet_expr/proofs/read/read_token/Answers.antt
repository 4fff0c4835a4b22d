use Rattle.std.proofs.Common.{◌≡◌, ℕ, drop, subst, sym, ap, arith, ◌∙◌, Some, None, Err}
use Rattle.std.proofs.lemmas.Result.{err_from_is_err_and}
use Rattle.jet_expr.specs.Machine.{advance, terms, fault_at, is_full}
use Rattle.jet_expr.specs.States.{state_of}
use Rattle.jet_expr.specs.Tokens.{token_of}
use Rattle.jet_expr.specs.declared.token.Token.{Token}
use Rattle.jet_expr.proofs.ReadLemmas.{over_blank, over_token, at_fault, fails_from, from_here, rest_slice, Moves}
use Rattle.jet_expr.proofs.read.read_token.Goals as goal

pub returns : goal.returns
returns c =
    let text = c.args.text.now in
    let here = state_of c.args.state in
    let next = state_of c.in_ok-next.next in
    let is : c.token_of-token.result ≡ token_of (drop c.args.at text) = c.token_of-token.ensures ∙ ap token_of (rest_slice text c.args.at) in
    let moves = over_token text c.args.at here next c.requires.within c.if-text-at-eq32.false (subst (λ (t : Token × ℕ). advance terms here t.0 ≡ Some next) is c.in_ok-next.ensures) in
    let m = subst (λ (t : Token × ℕ). Moves text c.args.at here next t.1) (sym is) moves in
    (m.on, m.within, m.same)

pub returns-then-text-at-eq32 : goal.returns-then-text-at-eq32
returns-then-text-at-eq32 c = (omega arith, omega (arith, c.requires.within), over_blank c.args.text.now c.args.at (state_of c.args.state) c.requires.within c.if-text-at-eq32.true)

pub returns-in_err-next : goal.returns-in_err-next
returns-in_err-next c =
    let p = err_from_is_err_and c.from_residual.result c.from_residual.ensures.1 in
    let text = c.args.text.now in
    let here = state_of c.args.state in
    let is : c.token_of-token.result ≡ token_of (drop c.args.at text) = c.token_of-token.ensures ∙ ap token_of (rest_slice text c.args.at) in
    let at_end : advance terms here c.token_of-token.result.0 ≡ None → from_here here text c.args.at ≡ Err (fault_at (is_full here) c.args.at c.token_of-token.result.0)
    = subst (λ (t : Token × ℕ). advance terms here t.0 ≡ None → from_here here text c.args.at ≡ Err (fault_at (is_full here) c.args.at t.0)) (sym is) (at_fault text c.args.at here c.requires.within c.if-text-at-eq32.false) in
    rw (p.1, p.2) (fails_from c.in_err-next.field-0.0 here c.args.at c.token_of-token.result.0 _ c.in_err-next.ensures at_end)
