-- Expressions, clauses and axioms that are the same but for places, in two scopes in which the names that they use stand for things that go alike.
use Rattle.std.specs.Prelude.{◌≡◌, refl, ℕ, Bool, true, false, List, [], ◌∷◌, ◌++◌, map, flat_map, Option, Some, None, option_map}
use Rattle.std.specs.List.{AllByRecursion}
use Rattle.std.proofs.Common.{ap, sym, subst, ◌∙◌}
use Rattle.logic_core.specs.Tree.{Tree}
use Rattle.logic_core.specs.Renamed.{both_renamed, EachHas}
use Rattle.bv_base.specs.declared.place.Place.{Place}
use Rattle.bpl_ast.specs.Tree.{Expr, Clause, no_clause, clause}
use Rattle.bpl_ast.specs.Statement.{DeclBody, constant, function, axiom_of, variables, synonym, procedure, implementation}
use Rattle.bpl_scopes.specs.declared.part.Part.{Part}
use Rattle.bpl_scopes.specs.declared.part.Part.TheVariants.{Axiom as in_axiom}
use Rattle.bpl_scopes.specs.Scopes.{Text, Table, Counts, Var, BoundVar, Scope}
use Rattle.bpl_faults.specs.ExprFaults.{expr_faults, formula_faults, clause_faults}
use Rattle.bpl_texts.specs.Uses.{expr_uses, clause_uses}
use Rattle.bpl_terms.specs.Terms.{term_of, term_in}
use Rattle.bpl_declaration_faults.specs.Variables.{scope_of}
use Rattle.canonical_text.specs.Same.{bare, bare_clause}
use Rattle.canonical_text.specs.Heads.{bare_head}
use Rattle.bpl_resolve.specs.Elaborate.{clause_term, axioms_in}
use Rattle.bpl_resolve.proofs.HasSort.{first_empty, second_empty}
use Rattle.rebuild_laws.specs.Alike.{free_choice, guarded, AlikeClause, AlikeTerms}
use Rattle.rebuild_laws.proofs.BareTerms.{bare_term}
use Rattle.rebuild_laws.proofs.ScopesAlike.{SameBounds, AlikeTerm, AlikeName, AlikeVars, no_vars, scope_here, scope_there}
use Rattle.rebuild_laws.proofs.TermsAlike.{Each, Hidden, term_alike}

some_same : (x y : Expr) → Some x ≡ Some y → x ≡ y
some_same x y e = cc

clause_same : (p q : Place) (x y : Expr) → clause p x ≡ clause q y → x ≡ y
clause_same p q x y e = cc

-- an axiom's expression
abbrev pub axiom_in : DeclBody → Option Expr
axiom_in (axiom_of x) = Some x
axiom_in (constant u ns s) = None
axiom_in (function n ps ins r x) = None
axiom_in (variables gs) = None
axiom_in (synonym n s) = None
axiom_in (procedure n ps g ss b) = None
axiom_in (implementation n ps g b) = None

bare_axiom : (b : DeclBody) → axiom_in (bare_head b) ≡ option_map bare (axiom_in b)
bare_axiom (axiom_of x) = refl
bare_axiom (constant u ns s) = refl
bare_axiom (function n ps ins r x) = refl
bare_axiom (variables gs) = refl
bare_axiom (synonym n s) = refl
bare_axiom (procedure n ps g ss b) = refl
bare_axiom (implementation n ps g b) = refl

abbrev axiom_terms : Table → Counts → Option Expr → List Tree
axiom_terms t c None = []
axiom_terms t c (Some x) = term_of (scope_of t c in_axiom []) x ∷ []

by_axiom : (t : Table) (c : Counts) (b : DeclBody) → axioms_in t c b ≡ axiom_terms t c (axiom_in b)
by_axiom t c (axiom_of x) = refl
by_axiom t c (constant u ns s) = refl
by_axiom t c (function n ps ins r x) = refl
by_axiom t c (variables gs) = refl
by_axiom t c (synonym n s) = refl
by_axiom t c (procedure n ps g ss b) = refl
by_axiom t c (implementation n ps g b) = refl

module _ (new_def new_var : ℕ → ℕ) (D V : ℕ → Type 0) (Used : Text → Type 0) (t u : Table) (c d : Counts) (names : (n : Text) → Used n → AlikeName new_def new_var D V Used t u c d n) where
  abbrev Alike : Tree → Tree → Type 0
  Alike = AlikeTerm new_def new_var D V Used t u c d

  -- in one part of two declarations, over variables and bound variables
  module _ (part : Part) (vs ws : List Var) (vars : AlikeVars new_def new_var D V Used t u c d vs ws) (bs cs : List BoundVar) (bounds : SameBounds bs cs) (h : List Text) (hides : Hidden new_def new_var D V Used t u c d names part vs bs h) where
    abbrev here : Scope
    here = scope_here new_def new_var D V Used t u c d part vs bs

    abbrev there : Scope
    there = scope_there new_def new_var D V Used t u c d part ws cs

    pub expressions_alike : (f : Bool) (x y : Expr) → expr_faults here f x ≡ [] → Each new_def new_var D V Used t u c d names (expr_uses h x) → bare x ≡ bare y → Alike (term_in here false x) (term_in there false y)
    expressions_alike f x y e k s =
        let a = term_alike new_def new_var D V Used t u c d names part vs ws vars false bs cs bounds h hides f x e k in
        let b : term_in there false y ≡ term_in there false x = sym (bare_term there false y) ∙ (ap (term_in there false) (sym s) ∙ bare_term there false x) in
        record { same = b ∙ a.same; covered = a.covered }

    pub clauses_alike : (k l : Clause) → clause_faults here k ≡ [] → Each new_def new_var D V Used t u c d names (clause_uses h k) → bare_clause k ≡ bare_clause l → AlikeClause new_def new_var D V (clause_term here k) (clause_term there l)
    clauses_alike no_clause no_clause e i s = free_choice
    clauses_alike no_clause (clause q y) e i s = absurd (cc)
    clauses_alike (clause p x) no_clause e i s = absurd (cc)
    clauses_alike (clause p x) (clause q y) e i s =
        let a = expressions_alike true x y (first_empty _ _ e) i (clause_same _ _ (bare x) (bare y) s) in
        subst (λ w. AlikeClause new_def new_var D V (Some (term_in here false x)) (Some w)) (sym a.same) (guarded a.covered)

  -- an axiom without faults whose names are used
  abbrev pub FineAxiom : Option Expr → Type 0
  FineAxiom None = Unit {0}
  FineAxiom (Some x) = (formula_faults (scope_of t c in_axiom []) x ≡ []) × AllByRecursion Used (expr_uses [] x)

  one_more : (o p : Option Expr) (ts us : List Tree) → option_map bare o ≡ option_map bare p → FineAxiom o → AlikeTerms new_def new_var D V ts us → AlikeTerms new_def new_var D V (axiom_terms t c o ++ ts) (axiom_terms u d p ++ us)
  one_more None None ts us e f a = a
  one_more None (Some y) ts us e f a = absurd (cc)
  one_more (Some x) None ts us e f a = absurd (cc)
  one_more (Some x) (Some y) ts us e f a =
      let r = expressions_alike in_axiom [] [] no_vars [] [] refl [] (λ n. refl) true x y (first_empty _ _ f.0) f.1 (some_same (bare x) (bare y) e) in
      record { same = λ i. r.same i ∷ a.same i; covered = (r.covered, a.covered) }

  -- the axioms of declarations that are the same but for places and bodies of procedures
  pub axioms_alike : (xs ys : List DeclBody) → map bare_head xs ≡ map bare_head ys → AllByRecursion (λ b. FineAxiom (axiom_in b)) xs → AlikeTerms new_def new_var D V (flat_map (axioms_in t c) xs) (flat_map (axioms_in u d) ys)
  axioms_alike [] [] e f = record { same = refl; covered = tt }
  axioms_alike [] (y ∷ ys) e f = absurd (cc)
  axioms_alike (x ∷ xs) [] e f = absurd (cc)
  axioms_alike (x ∷ xs) (y ∷ ys) e f =
      let first : bare_head x ≡ bare_head y = cc in
      let rest : map bare_head xs ≡ map bare_head ys = cc in
      let o : option_map bare (axiom_in x) ≡ option_map bare (axiom_in y) = sym (bare_axiom x) ∙ (ap axiom_in first ∙ bare_axiom y) in
      let r = one_more (axiom_in x) (axiom_in y) (flat_map (axioms_in t c) xs) (flat_map (axioms_in u d) ys) o f.0 (axioms_alike xs ys rest f.1) in
      subst (λ ts. AlikeTerms new_def new_var D V (ts ++ flat_map (axioms_in t c) xs) (axioms_in u d y ++ flat_map (axioms_in u d) ys)) (sym (by_axiom t c x))
      (subst (λ us. AlikeTerms new_def new_var D V (axiom_terms t c (axiom_in x) ++ flat_map (axioms_in t c) xs) (us ++ flat_map (axioms_in u d) ys)) (sym (by_axiom u d y)) r)
