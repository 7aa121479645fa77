-- In the module of a program without faults a requires mentions no entry value, no out-parameter and no local.
use Rattle.std.proofs.Common.{◌≡◌, refl, ap, sym, ◌∙◌, inl, inr, ◌⊎◌, ℕ, ◌+◌, ◌≤◌, ◌<◌, arith, true, false, List, [], ◌∷◌, length, Option, Some, None}
use Rattle.std.specs.Prelude.{⊤}
use Rattle.std.specs.List.{AllByRecursion}
use Rattle.std.proofs.lemmas.Option.{slice_get_within}
use Rattle.logic_core.proofs.EachOf.{every_append}
use Rattle.flow_core.specs.Reading.{Mentions}
use Rattle.bpl_ast.specs.Place.{Name, Ty}
use Rattle.bpl_ast.specs.Tree.{Expr}
use Rattle.bpl_ast.specs.Statement.{Signature, Spec as SpecTree, Decl}
use Rattle.bpl_model.specs.Numbering.{const_sorts, global_sorts, first_entry}
use Rattle.bpl_model.specs.Typed.{IsOnlyLater}
use Rattle.bpl_scopes.specs.declared.part.Part.TheVariants.{Requires as in_requires}
use Rattle.bpl_scopes.specs.declared.part.Role.TheVariants.{In as in_parameter, Out as out_parameter}
use Rattle.bpl_scopes.specs.Scopes.{Text, Table, Counts, Entity, a_constant, a_global, a_function, a_synonym, a_procedure, entity_of, names_of, texts_of, signature_names, Var, declared_as, var_in}
use Rattle.bpl_faults.specs.ExprFaults.{formula_faults}
use Rattle.bpl_declaration_faults.specs.Variables.{first_parameter, vars_from, in_vars, out_vars, parameters, scope_of}
use Rattle.bpl_declaration_faults.specs.DeclFaults.{fault_of}
use Rattle.bpl_terms.specs.Terms.{sort_or_int, term_of, meaning_term}
use Rattle.bpl_resolve.specs.Elaborate.{Implemented, proc_of}
use Rattle.bpl_resolve.proofs.HasSort.{first_empty}
use Rattle.bpl_resolve.proofs.ScopesKnown.{name_has, any_bounds}
use Rattle.bpl_resolve.proofs.ModuleSorts.{T, C, M, numbered_entity, constants_count, globals_count, length_vars}
use Rattle.bpl_resolve.proofs.ProcedureVariables.{map_length}
use Rattle.bpl_resolve.proofs.BodyTyped.{ins_sorts}
use Rattle.bpl_resolve.proofs.Unmentioned.{Lacks, NoName, lacks}
use Rattle.bpl_resolve.proofs.OutClauses.{different}

module _ (ds : List Decl) (none : fault_of ds ≡ None) where
  abbrev TT : Table
  TT = T ds none

  abbrev CC : Counts
  CC = C ds none

  module _ (v : ℕ) (late : first_entry (M ds none) ≤ v) where
    entity_lacks : (n : Text) (e : Entity) → entity_of TT n ≡ Some e → Lacks v (meaning_term false CC (declared_as e))
    entity_lacks n (a_constant k s) q =
        let a = slice_get_within (const_sorts (M ds none)) k _ (numbered_entity ds none n (a_constant k s) q) in
        let b = map_length (λ c. c.sort) (M ds none).consts in
        different v k (λ e. omega (arith, a, b, late, e))
    entity_lacks n (a_global k s) q =
        let a = slice_get_within (global_sorts (M ds none)) k _ (numbered_entity ds none n (a_global k s) q) in
        let b = map_length (λ c. c.sort) (M ds none).consts in
        let d = map_length (λ c. c.sort) (M ds none).globals in
        let c1 = constants_count ds none in
        different v (CC.constants + k) (λ e. omega (arith, a, b, d, c1, late, e))
    entity_lacks n (a_function h) q = refl
    entity_lacks n (a_synonym s) q = refl
    entity_lacks n (a_procedure k d) q = refl

    abbrev VarLacks : Var → Type 0
    VarLacks u = Lacks v (meaning_term false CC (var_in in_requires u))

    ins_lack : (hidden : List Text) (lo hi k : ℕ) (ps : List (Name × Ty)) → lo ≤ k → k + length ps ≤ hi → (v < lo) ⊎ (hi ≤ v) → AllByRecursion VarLacks (vars_from TT hidden in_parameter k ps)
    ins_lack hidden lo hi k [] a b c = tt
    ins_lack hidden lo hi k (p ∷ ps) a b (inl c) = (different v k (λ e. omega (arith, a, b, c, e)), ins_lack hidden lo hi (k + 1) ps (omega (arith, a)) (omega (arith, b)) (inl c))
    ins_lack hidden lo hi k (p ∷ ps) a b (inr c) = (different v k (λ e. omega (arith, a, b, c, e)), ins_lack hidden lo hi (k + 1) ps (omega (arith, a)) (omega (arith, b)) (inr c))

    outs_lack : (hidden : List Text) (k : ℕ) (ps : List (Name × Ty)) → AllByRecursion VarLacks (vars_from TT hidden out_parameter k ps)
    outs_lack hidden k [] = tt
    outs_lack hidden k (p ∷ ps) = (refl, outs_lack hidden (k + 1) ps)

    no_later : (g : Signature) → (v < first_parameter CC) ⊎ (first_parameter CC + length (names_of g.ins) ≤ v) → NoName v (scope_of TT CC in_requires (parameters TT CC g))
    no_later g c bs n = name_has (λ m. Lacks v (meaning_term false CC m)) refl (λ o. ⊤) (λ j o i. refl) (record { table = TT; counts = CC; part = in_requires; vars = parameters TT CC g; bounds = bs }) n (entity_lacks n)
        (every_append VarLacks (in_vars TT CC g) (out_vars TT CC g) (ins_lack _ (first_parameter CC) (first_parameter CC + length (names_of g.ins)) _ (names_of g.ins) (omega arith) (omega arith) c) (outs_lack _ _ (names_of g.outs))) (any_bounds bs)

  pub requires_lacks : (n : Text) (g : Signature) (ss : List SpecTree) (i : Option Implemented) (x : Expr) → formula_faults (scope_of TT CC in_requires (parameters TT CC g)) x ≡ []
      → (v : ℕ) → IsOnlyLater (M ds none) (proc_of TT CC n g ss i) v → ¬ Mentions (term_of (scope_of TT CC in_requires (parameters TT CC g)) x) v
  requires_lacks n g ss i x e v later m =
      let b = map_length (λ c. c.sort) (M ds none).consts in
      let d = map_length (λ c. c.sort) (M ds none).globals in
      let c1 = constants_count ds none in
      let g1 = globals_count ds none in
      let l1 = map_length (λ l. l.sort) (proc_of TT CC n g ss i).ins in
      let l2 = ap length (ins_sorts ds none n g ss i) in
      let l3 = map_length (λ (u : Var). sort_or_int u.sort) (in_vars TT CC g) in
      let l4 = length_vars TT (texts_of (signature_names g)) in_parameter (first_parameter CC) (names_of g.ins) in
      let two = both b d c1 g1 (sym l1 ∙ (l2 ∙ (l3 ∙ l4))) later in
      let q = lacks v (scope_of TT CC in_requires (parameters TT CC g)) (no_later v two.0 g two.1) refl true x (first_empty _ _ e) in
      let bad : true ≡ false = sym m ∙ q in cc
    where
      both : length (const_sorts (M ds none)) ≡ length (M ds none).consts → length (global_sorts (M ds none)) ≡ length (M ds none).globals → length (const_sorts (M ds none)) ≡ CC.constants → length (global_sorts (M ds none)) ≡ CC.globals
          → length (proc_of TT CC n g ss i).ins ≡ length (names_of g.ins) → IsOnlyLater (M ds none) (proc_of TT CC n g ss i) v
          → (first_entry (M ds none) ≤ v) × ((v < first_parameter CC) ⊎ (first_parameter CC + length (names_of g.ins) ≤ v))
      both b d c1 g1 l (inl h) = let h0 = h.0 in let h1 = h.1 in (h0, inl (omega (arith, b, d, c1, g1, h1)))
      both b d c1 g1 l (inr h) = (omega (arith, h), inr (omega (arith, b, d, c1, g1, l, h)))
