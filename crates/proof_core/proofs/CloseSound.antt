-- Close is sound, and so is the start.
use Rattle.std.proofs.Common.{sym, subst, nat_eq, true, false, ◌&&◌, ◌||◌, IsTrue, List, [], ◌∷◌, ◌++◌}
use Rattle.std.specs.Prelude.{All}
use Rattle.std.proofs.lemmas.List.Elements.{All-nil, All-push}
use Rattle.logic_core.proofs.Booleans.{both_true}
use Rattle.logic_core.specs.Tree.{Tree, truth, negation}
use Rattle.logic_core.specs.Value.{Value}
use Rattle.logic_core.specs.Def.{Def}
use Rattle.logic_core.specs.Same.{same_term, is_some_and}
use Rattle.logic_core.specs.Junction.{negated, is_truth}
use Rattle.logic_core.proofs.SameTerm.{same_is_equal}
use Rattle.proof_core.specs.Context.{Context, fact}
use Rattle.proof_core.specs.Close.{is_negation_of}
use Rattle.proof_core.specs.Soundness.{CloseIsSound, StartIsSound}
use Rattle.logic_core.specs.WellSorted.{IsFormula}
use Rattle.logic_laws.proofs.FormulaSorts.{negation_sort}
use Rattle.proof_core.proofs.Closed.{HoldsIn, same_holds, holds_stable, negated_value}
use Rattle.proof_core.proofs.Conditions.{some_and}
use Rattle.proof_core.proofs.Junctions.{not_holds, not_both, neither}
use Rattle.proof_core.proofs.Appended.{each_extends, refuted, at_fact}

truth_is_false : (defs : List Def) (frees : List Value) (t : Tree) → IsTrue (is_truth false t) → ¬ HoldsIn defs frees t
truth_is_false defs frees (truth true) e h = cc
truth_is_false defs frees (truth false) e h = cc
truth_is_false defs frees t e h = absurd (cc)

pub close_is_sound : CloseIsSound
close_is_sound f g defs c s h frees fit hold =
    let p = some_and (fact c f) (λ t. is_some_and (fact c g) (λ u. (nat_eq f g && is_truth false t) || is_negation_of u t)) h in
    let q = some_and (fact c g) (λ u. (nat_eq f g && is_truth false p.0) || is_negation_of u p.0) p.2 in
    let first : HoldsIn defs frees p.0 = at_fact (HoldsIn defs frees) c.facts f p.0 p.1 hold in
    let second : HoldsIn defs frees q.0 = at_fact (HoldsIn defs frees) c.facts g q.0 q.1 hold in
    let formula : IsFormula c.vars defs p.0 = at_fact (IsFormula c.vars defs) c.facts f p.0 p.1 s.facts in
    neither (nat_eq f g && is_truth false p.0) (is_negation_of q.0 p.0) q.2
    (λ e. truth_is_false defs frees p.0 (both_true (nat_eq f g) (is_truth false p.0) e).1 first)
    (λ e. let n = some_and (negated p.0) (λ u. same_term u q.0) e in
    let opposite : HoldsIn defs frees n.0 = subst (HoldsIn defs frees) (sym (same_is_equal n.0 q.0 n.2)) second in
    let negation_holds = (same_holds defs frees (negation p.0) n.0 (negated_value c.vars defs s.definitions frees fit p.0 n.0 formula n.1)).1 opposite in
    not_both defs frees p.0 first negation_holds)

pub start_is_sound : StartIsSound
start_is_sound o c s e =
    let first : Context = record { vars = o.vars; facts = [] } in
    let opposite : IsFormula o.vars o.defs (negation o.goal) = negation_sort o.vars o.defs o.goal [] s.goal in
    let formulas : All (IsFormula o.vars o.defs) (o.axioms ++ negation o.goal ∷ []) = All-push (IsFormula o.vars o.defs) o.axioms (negation o.goal) s.axioms opposite in
    let x = each_extends o.defs (o.axioms ++ negation o.goal ∷ []) first c (record { definitions = s.definitions; facts = All-nil (IsFormula o.vars o.defs) }) formulas e in (
      x.sorted,
      λ unsat frees fit axioms.
          holds_stable o.defs frees o.goal (λ untrue. refuted o.defs first (o.axioms ++ negation o.goal ∷ []) c x unsat frees fit (All-nil (HoldsIn o.defs frees))
          (All-push (HoldsIn o.defs frees) o.axioms (negation o.goal) axioms (not_holds o.defs frees o.goal untrue))),
    )
