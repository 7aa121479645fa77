-- Instantiate and skolem are sound.
use Rattle.std.proofs.Common.{◌≡◌, refl, ap, subst, ℕ, ◌+◌, true, IsTrue, Some, List, [], ◌∷◌, ◌++◌, reverse, length, append-nil}
use Rattle.logic_core.specs.Tree.{Kind, boolean, Tree, for_all, exists, Trees, Patterns}
use Rattle.logic_core.specs.Value.{Value, holds, are_of}
use Rattle.logic_core.specs.Def.{Def}
use Rattle.logic_core.specs.View.{trees_of}
use Rattle.logic_core.specs.Meaning.{Holds}
use Rattle.logic_core.specs.Valid.{calls_of}
use Rattle.logic_core.specs.Sorts.{sort_of, are}
use Rattle.logic_core.specs.Subterm.{listed}
use Rattle.logic_core.specs.Substitute.{substitute}
use Rattle.logic_core.proofs.Kept.{true_stable}
use Rattle.logic_core.proofs.Defined.{has_defined, keeps_defined}
use Rattle.logic_laws.proofs.Options.{bind_some}
use Rattle.logic_laws.proofs.FormulaSorts.{parts_of_quantifier}
use Rattle.logic_laws.proofs.SubstitutedValues.{substituted_sort, same_substituted}
use Rattle.logic_laws.proofs.Assigned.{instance_holds, witness_exists, same_more}
use Rattle.proof_core.specs.Context.{Context, fact, new_variables, with_variables, appended}
use Rattle.proof_core.specs.Quantifiers.{instantiated, skolemized}
use Rattle.proof_core.specs.Soundness.{IsSorted, IsUnsatisfiable, InstantiateIsSound, SkolemIsSound}
use Rattle.logic_core.specs.WellSorted.{IsFormula}
use Rattle.proof_core.proofs.Closed.{HoldsIn}
use Rattle.proof_core.proofs.Conditions.{when_then}
use Rattle.proof_core.proofs.Appended.{appended_extends, one_followed, at_fact, All-one}
use Rattle.proof_core.proofs.NewVariables.{variables_sort, variables_give, slice_after, more_sort, more_sorted, next_value, newly_followed}

listed_trees : (ts : List Tree) → listed (trees_of ts) ≡ ts
listed_trees [] = refl
listed_trees (t ∷ ts) = ap (λ us. t ∷ us) (listed_trees ts)

-- the body of a quantified formula is one under its binder
body_formula : (vars : List Kind) (defs : List Def) (ss : List Kind) (ps : Patterns) (body : Tree) → IsFormula vars defs (for_all ss ps body) → sort_of vars defs (reverse ss) body ≡ Some boolean
body_formula vars defs ss ps body formula = subst (λ b. sort_of vars defs b body ≡ Some boolean) (append-nil (reverse ss)) (parts_of_quantifier vars defs ss ps body [] boolean formula).1

instantiate_at : (defs : List Def) (c d : Context) (f : ℕ) (t : Tree) (ts : List Tree) → IsSorted defs c → fact c f ≡ Some t → instantiated defs c t ts ≡ Some d → IsSorted defs d × (IsUnsatisfiable defs d → IsUnsatisfiable defs c)
instantiate_at defs c d f (for_all ss ps body) ts s k e =
    let w = when_then (are c.vars defs [] ss (trees_of ts)) (appended defs c (substitute body ts)) d e in
    let inner = body_formula c.vars defs ss ps body (at_fact (IsFormula c.vars defs) c.facts f (for_all ss ps body) k s.facts) in
    let formula : IsFormula c.vars defs (substitute body ts) = subst (λ us. IsFormula c.vars defs (substitute body us)) (listed_trees ts) (substituted_sort c.vars defs ss (trees_of ts) body boolean w.0 inner) in
    one_followed defs c d (substitute body ts) (appended_extends defs c d (substitute body ts) s formula w.1)
    (λ frees fit hold. subst (λ us. HoldsIn defs frees (substitute body us)) (listed_trees ts)
    (instance_holds c.vars defs frees (s.definitions, fit) ss ps body (trees_of ts) inner w.0 (at_fact (HoldsIn defs frees) c.facts f (for_all ss ps body) k hold)))
instantiate_at defs c d f t ts s k e = absurd (cc)

pub instantiate_is_sound : InstantiateIsSound
instantiate_is_sound f ts defs c d s e = let p = bind_some (fact c f) (λ t. instantiated defs c t ts) d e in instantiate_at defs c d f p.0 ts s p.1 p.2

-- the body with new variables
module _ (defs : List Def) (c : Context) (s : IsSorted defs c) (ss : List Kind) (body : Tree) (inner : sort_of c.vars defs (reverse ss) body ≡ Some boolean) where
  abbrev witness : Tree
  witness = substitute body (new_variables c ss)

  abbrev names : Trees
  names = trees_of (new_variables c ss)

  names_sort : are (c.vars ++ ss) defs [] ss names ≡ true
  names_sort = variables_sort (c.vars ++ ss) defs (length c.vars) ss (λ i. slice_after c.vars ss (length c.vars + i) i refl)

  inner_more : sort_of (c.vars ++ ss) defs (reverse ss) body ≡ Some boolean
  inner_more = more_sort defs c ss s body (reverse ss) boolean inner

  witness_formula : IsFormula (c.vars ++ ss) defs witness
  witness_formula = subst (λ us. IsFormula (c.vars ++ ss) defs (substitute body us)) (listed_trees (new_variables c ss)) (substituted_sort (c.vars ++ ss) defs ss names body boolean names_sort inner_more)

  -- at the values of the new variables the body says what the body with them says
  witness_holds : (frees vs : List Value) → IsTrue (are_of c.vars frees) → are_of ss vs ≡ true → Holds frees (calls_of frees defs) body (reverse vs) → HoldsIn defs (frees ++ vs) witness
  witness_holds frees vs fit h holding =
      let over = (same_more c.vars defs frees (s.definitions, fit) vs body (reverse ss) (reverse vs) boolean inner (λ v. IsTrue (holds v)) (λ v. true_stable (holds v))).0 holding in
      let give = variables_give (frees ++ vs) defs (length c.vars) ss vs h (next_value defs c ss s frees fit vs) in
      let all' = frees ++ vs in
      subst (λ us. HoldsIn defs (frees ++ vs) (substitute body us)) (listed_trees (new_variables c ss))
      ((same_substituted (c.vars ++ ss) defs all' (calls_of all' defs) (has_defined all' defs) (keeps_defined all' defs) ss names vs body names_sort give (λ v. IsTrue (holds v)) (λ v. true_stable (holds v))).0 over)

skolem_at : (defs : List Def) (c d : Context) (f : ℕ) (t : Tree) → IsSorted defs c → fact c f ≡ Some t → skolemized defs c t ≡ Some d → IsSorted defs d × (IsUnsatisfiable defs d → IsUnsatisfiable defs c)
skolem_at defs c d f (exists ss ps body) s k e =
    let inner = body_formula c.vars defs ss ps body (at_fact (IsFormula c.vars defs) c.facts f (exists ss ps body) k s.facts) in
    let new = substitute body (new_variables c ss) in
    newly_followed defs c ss s d (new ∷ []) (appended_extends defs (with_variables c ss) d new (more_sorted defs c ss s) (witness_formula defs c s ss body inner) e)
    (λ frees fit hold go. witness_exists frees defs ss ps body (at_fact (HoldsIn defs frees) c.facts f (exists ss ps body) k hold)
    (λ vs h holding. go vs h (All-one (HoldsIn defs (frees ++ vs)) new (witness_holds defs c s ss body inner frees vs fit h holding))))
skolem_at defs c d f t s k e = absurd (cc)

pub skolem_is_sound : SkolemIsSound
skolem_is_sound f defs c d s e = let p = bind_some (fact c f) (λ t. skolemized defs c t) d e in skolem_at defs c d f p.0 s p.1 p.2
