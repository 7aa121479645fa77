-- Where clauses in executions: a call's result that meets its own clause and not that of the variable which takes it; a loop at whose head no clause is asked; a clause that makes an assertion hold.
use Rattle.std.specs.Prelude.{◌≡◌, refl, ℕ, pos, true, [], ◌∷◌, Some, None}
use mathlib.Core.Path.{subst}
use mathlib.Core.Logic.{inl, inr}
use Rattle.logic_core.specs.Value.{whole}
use Rattle.flow_core.specs.State.{State}
use Rattle.flow_core.specs.declared.mark.GoalKind.TheVariants.{Assert, InvariantEntry}
use Rattle.bpl_model.specs.Execution.{to, normal, left, failed, assert_holds, assert_fails, havocked, assigned, call_returns, loops, ExecLoop, again, ends, ExecList, done, next, stops, ExecBody, body_fails, body_ends}
use Rattle.bpl_model.specs.Safe.{Fails, Safe}
use Rattle.bpl_model.proofs.Spelled.{marked}
use Rattle.bpl_model.proofs.Inversion.{of_body, of_some, of_none, of_assert}
use Rattle.bpl_model.proofs.WithClauses.{a, b, b_body, calls, c, c_body, turn, loop, d, d_body, positive}
use Rattle.bpl_model.specs.TypedTest.{is_typed_module}

abbrev state : ℕ → State
state k = whole (pos k) ∷ []

-- x is 1, and A gives 0
zero_fails : Fails calls b (marked 5 3 Assert)
zero_fails = record {
  from = state 1;
  entry = record { state = record { world = record { sorted = refl; axioms = tt }; sorted = refl }; old = refl; clauses = (refl, tt); requires = tt };
  fails = body_fails b_body refl (next (state 0) (call_returns a [] [] (state 0) refl tt tt refl refl (refl, tt)) (next (state 0) (assert_holds refl) (stops (assert_fails (λ h. cc)) refl)));
}

-- where A gives 2 and x is havocked to 3, all hold
all_hold : ExecBody calls b (state 1) (normal (state 3))
all_hold = body_ends b_body (normal (state 3)) (state 3) refl (
    next (state 2) (call_returns a [] [] (state 2) refl tt tt refl refl (refl, tt))
    (next (state 2) (assert_holds refl) (next (state 2) (assert_holds refl) (next (state 3) (havocked (state 3) refl (refl, tt)) (next (state 3) (assert_holds refl) done))))) refl tt

-- two turns
twice : ExecLoop loop c InvariantEntry (state 0) None [] turn (normal (state 2))
twice = again (state 1) tt tt (next (state 1) (assigned (state 1) (refl, tt)) done) (again (state 2) tt tt (next (state 2) (assigned (state 2) (refl, tt)) done) (ends tt tt))

loop_ends : ExecBody loop c (state 7) (normal (state 2))
loop_ends = body_ends c_body (normal (state 2)) (state 2) refl (next (state 0) (assigned (state 0) (refl, tt)) (next (state 2) (loops twice) (next (state 2) (assert_holds refl) done))) refl tt

-- of the clause at entry the assertion is a copy
positive_is_safe : Safe positive d
positive_is_safe mark f =
    let b = of_body f.fails in
    let named : Some d_body ≡ Some b.0 = b.1 in
    let same : b.0 ≡ d_body = cc in
    elim b.2 [
      | inl h ↦ elim (of_some positive d (subst (λ ss. ExecList positive d f.from ss (failed mark)) same h)) [
        | inl x ↦ let e : failed mark ≡ normal x.0 = of_none positive d x.2 in cc
        | inr z ↦ elim z [
          | inl x ↦ elim (of_assert positive d x.3) [ inl y ↦ let e : left (to x.0) x.1 ≡ normal f.from = y.1 in cc | inr y ↦ absurd (y.0 f.entry.clauses.0) ]
          | inr x ↦ elim (of_assert positive d x.0) [ inl y ↦ let e : failed mark ≡ normal f.from = y.1 in cc | inr y ↦ absurd (y.0 f.entry.clauses.0) ]
        ]
      ]
      | inr x ↦ elim x.4 [ ]
    ]

calls_typed : is_typed_module calls ≡ true
calls_typed = refl
