-- A fact with a term replaced by one of its sort and value.
use Rattle.std.proofs.Common.{◌≡◌, ℕ, IsTrue, Some, List, []}
use Rattle.logic_core.specs.Tree.{Kind, boolean, Tree}
use Rattle.logic_core.specs.Value.{Value, are_of}
use Rattle.logic_core.specs.Def.{Def}
use Rattle.logic_core.specs.Sorts.{sort_of}
use Rattle.logic_core.specs.Subterm.{replaced}
use Rattle.logic_core.proofs.Replaced.{Same}
use Rattle.proof_core.specs.Context.{Context, fact, appended}
use Rattle.proof_core.specs.Soundness.{IsSorted, IsUnsatisfiable}
use Rattle.logic_core.specs.WellSorted.{IsFormula}
use Rattle.proof_core.proofs.Closed.{Of, HoldsIn, AllHold, same_holds, replaced_sort, replaced_value}
use Rattle.proof_core.proofs.Appended.{appended_extends, one_followed, at_fact}

module _ (defs : List Def) (c : Context) (s : IsSorted defs c) (f : ℕ) (g : Tree) (at : fact c f ≡ Some g) (t u : Tree) (k : Kind) (t_sort : sort_of c.vars defs [] t ≡ Some k) (u_sort : sort_of c.vars defs [] u ≡ Some k) where
  -- the fact of this number
  pub formula : IsFormula c.vars defs g
  formula = at_fact (IsFormula c.vars defs) c.facts f g at s.facts

  pub replaced_formula : IsFormula c.vars defs (replaced t u g)
  replaced_formula = replaced_sort c.vars defs s.definitions t u g k boolean t_sort u_sort formula

  pub replaced_holds : (frees : List Value) → IsTrue (are_of c.vars frees) → Same (Of defs frees t) (Of defs frees u) → AllHold defs frees c.facts → HoldsIn defs frees (replaced t u g)
  replaced_holds frees fit same hold = (same_holds defs frees g (replaced t u g) (replaced_value c.vars defs s.definitions frees fit t u g k boolean t_sort u_sort same formula)).0 (at_fact (HoldsIn defs frees) c.facts f g at hold)

  -- it may be appended
  pub replaced_followed : (d : Context) → appended defs c (replaced t u g) ≡ Some d → ((frees : List Value) → IsTrue (are_of c.vars frees) → AllHold defs frees c.facts → Same (Of defs frees t) (Of defs frees u)) → IsSorted defs d × (IsUnsatisfiable defs d → IsUnsatisfiable defs c)
  replaced_followed d e same = one_followed defs c d (replaced t u g) (appended_extends defs c d (replaced t u g) s replaced_formula e) (λ frees fit hold. replaced_holds frees fit (same frees fit hold) hold)
