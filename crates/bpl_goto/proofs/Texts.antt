-- Gotos removed from three bodies: a choice with a jump over a statement, two labels of one statement, and a goto out of two lists.
use Rattle.std.specs.Prelude.{◌≡◌, refl, true, false, [], ◌∷◌, Some, None, codes}
use Rattle.logic_core.specs.Tree.{free, at_most, truth}
use Rattle.flow_core.specs.declared.mark.GoalKind.TheVariants.{Assert}
use Rattle.bpl_model.specs.Module.{Name, Stmt, Stmts, no_stmts, assert, assume, assign, if_else, while, break, goto, labelled}
use Rattle.bpl_model.proofs.Spelled.{at, marked, n, list, program}
use Rattle.bpl_model.specs.TypedTest.{is_typed_module}
use Rattle.bpl_model.proofs.Jumps as jumps
use Rattle.bpl_goto.specs.Forward.{BodyGoesForward}
use Rattle.bpl_goto.specs.Removed.{nowhere, body_without, remove_gotos}

-- W: if (true) { .. }
abbrev wrap : Name → Stmts → Stmt
wrap w ss = labelled (w ∷ []) (if_else nowhere false (Some (truth true)) ss no_stmts)

j_goes_forward : BodyGoesForward (Some jumps.body)
j_goes_forward = (refl, (tt, ((refl, (refl, tt)), (tt, ((refl, tt), (tt, (tt, tt)))))))

j_removed : body_without jumps.body ≡ list (
    wrap (codes "@@C") (list (
    wrap (codes "@@B") (list (
    wrap (codes "@@A") (list (
    assign (at 4 3) ((1, n 0) ∷ [])
    ∷ if_else (at 5 3) true None (list (break (at 5 3) (Some (codes "@@A")) ∷ [])) (list (break (at 5 3) (Some (codes "@@B")) ∷ [])) ∷ []))
    ∷ labelled (codes "A" ∷ []) (assign (at 6 6) ((1, n 1) ∷ []))
    ∷ break (at 7 3) (Some (codes "@@C")) ∷ []))
    ∷ labelled (codes "B" ∷ []) (assign (at 8 6) ((1, n 2) ∷ [])) ∷ []))
    ∷ labelled (codes "C" ∷ []) (assert (marked 9 6 Assert) (at_most (n 1) (free 1))) ∷ [])
j_removed = refl

j_stays_typed : is_typed_module (remove_gotos (jumps.m 1)) ≡ true
j_stays_typed = refl

-- goto A; goto B; A: B: assert true; the first label's wrapper is the inner one
abbrev two : Stmts
two = list (goto (at 1 1) (codes "A" ∷ []) ∷ goto (at 2 1) (codes "B" ∷ []) ∷ labelled (codes "A" ∷ codes "B" ∷ []) (assert (marked 3 1 Assert) (truth true)) ∷ [])

two_removed : body_without two ≡ list (
    wrap (codes "@@B") (list (
    wrap (codes "@@A") (list (break (at 1 1) (Some (codes "@@A")) ∷ break (at 2 1) (Some (codes "@@B")) ∷ [])) ∷ []))
    ∷ labelled (codes "A" ∷ codes "B" ∷ []) (assert (marked 3 1 Assert) (truth true)) ∷ [])
two_removed = refl

-- while (true) { if (true) { goto L; } assert true; } assert true; L: assert false; nothing is wrapped in the inner lists
outer_goes_forward : BodyGoesForward (Some jumps.out_body)
outer_goes_forward = (refl, (((((refl, tt), tt), tt), (tt, tt)), (tt, (tt, tt))))

outer_removed : body_without jumps.out_body ≡ list (
    wrap (codes "@@L") (list (
    while (at 2 3) (Some (truth true)) [] (list (if_else (at 2 5) false (Some (truth true)) (list (break (at 3 7) (Some (codes "@@L")) ∷ [])) no_stmts ∷ assert (marked 5 5 Assert) (truth true) ∷ []))
    ∷ assert (marked 7 3 Assert) (truth true) ∷ []))
    ∷ labelled (codes "L" ∷ []) (assert (marked 8 6 Assert) (truth false)) ∷ [])
outer_removed = refl

outer_stays_typed : is_typed_module (remove_gotos (program [] (jumps.outer ∷ []))) ≡ true
outer_stays_typed = refl

-- three labels, of which the last has a plain break; the new labels are longer than each label, also than one that looks like them
abbrev three : Stmts
three = list (goto (at 1 1) (codes "A" ∷ codes "@@B" ∷ codes "C" ∷ []) ∷ labelled (codes "A" ∷ codes "@@B" ∷ codes "C" ∷ []) (assume (at 2 1) (truth true)) ∷ [])

three_removed : body_without three ≡ list (
    wrap (codes "@@@@C") (list (wrap (codes "@@@@@@B") (list (wrap (codes "@@@@A") (list (
    if_else (at 1 1) true None (list (break (at 1 1) (Some (codes "@@@@A")) ∷ []))
    (list (if_else (at 1 1) true None (list (break (at 1 1) (Some (codes "@@@@@@B")) ∷ [])) (list (break (at 1 1) (Some (codes "@@@@C")) ∷ [])) ∷ [])) ∷ [])) ∷ [])) ∷ []))
    ∷ labelled (codes "A" ∷ codes "@@B" ∷ codes "C" ∷ []) (assume (at 2 1) (truth true)) ∷ [])
three_removed = refl

-- A: assert true; goto A; and a goto into a branch don't go forward
back : BodyGoesForward (Some (list (labelled (codes "A" ∷ []) (assert (marked 1 1 Assert) (truth true)) ∷ goto (at 2 1) (codes "A" ∷ []) ∷ []))) → ⊥
back h = let bad : false ≡ true = h.1.1.0.0 in cc

into : BodyGoesForward (Some (list (goto (at 1 1) (codes "A" ∷ []) ∷ if_else (at 2 1) false None (list (labelled (codes "A" ∷ []) (assert (marked 3 1 Assert) (truth true)) ∷ [])) no_stmts ∷ []))) → ⊥
into h = let bad : false ≡ true = h.1.0.0 in cc
