-- Two procedures with a body whose own declarations are the same but for places, and the others that they reach but for places and bodies of procedures: names are alike, and numbers in order.
use Rattle.std.specs.Prelude.{◌≡◌, ℕ, ◌+◌, ◌-◌, ◌<◌, nat_lt, Bool, true, false, IsTrue, ◌^◌, length, flat_map, cond, List, [], ◌∷◌, map, slice_get, Option, Some, None}
use Rattle.std.proofs.Common.{refl, ap, sym, ◌∙◌, subst, arith, inl, inr, ◌⊎◌}
use Rattle.std.proofs.lemmas.Bool.{lt-ltb}
use Rattle.bpl_ast.specs.Statement.{DeclBody, procedure, implementation, Decl}
use Rattle.bpl_model.specs.Module.{Proc, Module}
use Rattle.bpl_model.specs.Numbering.{first_in}
use Rattle.bpl_model.specs.Reach.{own_positions}
use Rattle.bpl_scopes.specs.Scopes.{Text, Table, table_of, Counts, no_counts, counts_after}
use Rattle.bpl_declaration_faults.specs.DeclFaults.{fault_of}
use Rattle.canonical_text.specs.SameStatement.{bare_decl}
use Rattle.canonical_text.specs.RoundTrip.{AreWrittenDecls}
use Rattle.vc_build.specs.Depends.{reached_axioms}
use Rattle.bpl_model.specs.Reach.{reached_globals}
use Rattle.bpl_resolve.specs.Elaborate.{axioms_in, globals_in as module_globals, module_of}
use Rattle.rebuild_laws.proofs.AxiomsReached.{axioms_there}
use Rattle.rebuild_laws.proofs.GlobalsReached.{globals_there}
use Rattle.canonical_text.specs.Heads.{bare_head, HaveBody, whole, apart}
use Rattle.rebuild_laws.specs.Twins.{Twins}
use Rattle.rebuild_laws.proofs.NamesInUse.{Used, Met, used}
use Rattle.rebuild_laws.proofs.TwinsOfTexts.{In, in_bodies, twins_of_texts}
use Rattle.rebuild_laws.specs.DependencyTexts.{bodies_at, other_positions}
use Rattle.rebuild_laws.proofs.NamedNumbers.{constants_in, globals_in}
use Rattle.rebuild_laws.proofs.SameNames.{vars_met, functions_met, new_low, new_function, name_alike}
use Rattle.rebuild_laws.proofs.MetNumbers.{consts_are, globals_are}
use Rattle.rebuild_laws.proofs.OrderOfNames.{OwnHaveNone, constants_in_order, globals_in_order}
use Rattle.rebuild_laws.proofs.NumberOrder.{low_numbers}
use Rattle.rebuild_laws.proofs.ScopesAlike.{AlikeName}
use Rattle.rebuild_laws.specs.Numbers.{new_all, Reads, Low, LowNumbers}

no_constants : (bs : List DeclBody) (b : DeclBody) → HaveBody bs → In b bs → constants_in b ≡ []
no_constants _ b whole (inl e) = ap constants_in (sym e)
no_constants _ b whole (inr h) = absurd h
no_constants _ b apart (inl e) = ap constants_in (sym e)
no_constants _ b apart (inr (inl e)) = ap constants_in (sym e)
no_constants _ b apart (inr (inr h)) = absurd h

no_globals : (bs : List DeclBody) (b : DeclBody) → HaveBody bs → In b bs → globals_in b ≡ []
no_globals _ b whole (inl e) = ap globals_in (sym e)
no_globals _ b whole (inr h) = absurd h
no_globals _ b apart (inl e) = ap globals_in (sym e)
no_globals _ b apart (inr (inl e)) = ap globals_in (sym e)
no_globals _ b apart (inr (inr h)) = absurd h

no_axioms : (t : Table) (c : Counts) (bs : List DeclBody) (b : DeclBody) → HaveBody bs → In b bs → axioms_in t c b ≡ []
no_axioms t c _ b whole (inl e) = ap (axioms_in t c) (sym e)
no_axioms t c _ b whole (inr h) = absurd h
no_axioms t c _ b apart (inl e) = ap (axioms_in t c) (sym e)
no_axioms t c _ b apart (inr (inl e)) = ap (axioms_in t c) (sym e)
no_axioms t c _ b apart (inr (inr h)) = absurd h

no_module_globals : (t : Table) (c : Counts) (bs : List DeclBody) (b : DeclBody) → HaveBody bs → In b bs → module_globals t c b ≡ []
no_module_globals t c _ b whole (inl e) = ap (module_globals t c) (sym e)
no_module_globals t c _ b whole (inr h) = absurd h
no_module_globals t c _ b apart (inl e) = ap (module_globals t c) (sym e)
no_module_globals t c _ b apart (inr (inl e)) = ap (module_globals t c) (sym e)
no_module_globals t c _ b apart (inr (inr h)) = absurd h

-- of one program: its reached axioms and globals are those of the other declarations that are reached
module _ (ds : List Decl) (p : Proc) (written : AreWrittenDecls 0 ds) (none : fault_of ds ≡ None) (body : HaveBody (bodies_at ds (own_positions (module_of ds) p))) where
  pub axioms_are : length ds < 2 ^ 64 → reached_axioms (module_of ds) p ≡ flat_map (axioms_in (table_of ds) (counts_after no_counts ds)) (bodies_at ds (other_positions (module_of ds) p))
  axioms_are few = axioms_there ds p written few (table_of ds) (counts_after no_counts ds)
      (λ d x o a. no_axioms (table_of ds) (counts_after no_counts ds) (bodies_at ds (own_positions (module_of ds) p)) x.body body (in_bodies ds (own_positions (module_of ds) p) d x o a))

  pub reached_globals_are : reached_globals (module_of ds) p ≡ flat_map (module_globals (table_of ds) (counts_after no_counts ds)) (bodies_at ds (other_positions (module_of ds) p))
  reached_globals_are = globals_there ds p written none
      (λ d x o a. no_module_globals (table_of ds) (counts_after no_counts ds) (bodies_at ds (own_positions (module_of ds) p)) x.body body (in_bodies ds (own_positions (module_of ds) p) d x o a))

own_have_none : (ds : List Decl) (p : Proc) → HaveBody (bodies_at ds (own_positions (module_of ds) p)) → OwnHaveNone ds p
own_have_none ds p h = record {
  constants = λ d x o a. no_constants (bodies_at ds (own_positions (module_of ds) p)) x.body h (in_bodies ds (own_positions (module_of ds) p) d x o a);
  globals = λ d x o a. no_globals (bodies_at ds (own_positions (module_of ds) p)) x.body h (in_bodies ds (own_positions (module_of ds) p) d x o a);
}

module _ (ds : List Decl) (p : Proc) (es : List Decl) (q : Proc) (none : fault_of ds ≡ None) (none_there : fault_of es ≡ None)
    (body : HaveBody (bodies_at ds (own_positions (module_of ds) p))) (body_there : HaveBody (bodies_at es (own_positions (module_of es) q)))
    (own : map bare_decl (bodies_at ds (own_positions (module_of ds) p)) ≡ map bare_decl (bodies_at es (own_positions (module_of es) q)))
    (others : map bare_head (bodies_at ds (other_positions (module_of ds) p)) ≡ map bare_head (bodies_at es (other_positions (module_of es) q))) where
  abbrev M : Module
  M = module_of ds

  abbrev N : Module
  N = module_of es

  pub twins : Twins ds p es q
  twins = twins_of_texts ds p es q own others

  pub twins_back : Twins es q ds p
  twins_back = twins_of_texts es q ds p (sym own) (sym others)

  -- the numbers of variables
  pub numbers : LowNumbers M N (vars_met ds p) (vars_met es q) (new_low ds es) (new_low es ds)
  numbers = low_numbers ds p es q twins twins_back none none_there
      (constants_in_order ds p es q none none_there (own_have_none ds p body) (own_have_none es q body_there) others)
      (globals_in_order ds p es q none none_there (own_have_none ds p body) (own_have_none es q body_there) others)

  abbrev C : Counts
  C = counts_after no_counts ds

  abbrev D : Counts
  D = counts_after no_counts es

  below : (v : ℕ) → v < C.constants + (C.globals + C.globals) → v < first_in M
  below v h = let a = consts_are ds none in let b = globals_are ds none in omega (arith, h, a, b)

  abbrev pub Functions : ℕ → Type 0
  Functions f = IsTrue (functions_met ds p f)

  -- names in formulas over constants, globals and entry values alone
  pub low_names : (n : Text) → Used ds p n → AlikeName (new_function ds es) (new_low ds es) Functions (Low M N (vars_met ds p) (vars_met es q) (new_low ds es) (new_low es ds)) (Used ds p) (table_of ds) (table_of es) C D n
  low_names n u = name_alike ds p es q twins twins_back none none_there (new_low ds es) (Low M N (vars_met ds p) (vars_met es q) (new_low ds es) (new_low es ds)) (λ v h. refl) (λ v h m. (below v h, m)) (Used ds p) n (used u)

  abbrev new_number : ℕ → ℕ
  new_number = new_all M N (vars_met ds p) (vars_met es q) (new_low ds es) (new_low es ds)

  abbrev ReadHere : ℕ → Type 0
  ReadHere = Reads M N (vars_met ds p) (vars_met es q) (new_low ds es) (new_low es ds)

  -- names in the procedure and in the contracts of others
  pub names : (n : Text) → Used ds p n → AlikeName (new_function ds es) new_number Functions ReadHere (Used ds p) (table_of ds) (table_of es) C D n
  names n u = name_alike ds p es q twins twins_back none none_there new_number ReadHere
      (λ v h. ap (λ b. cond b (new_low ds es v) (first_in N + (v - first_in M))) (lt-ltb v (first_in M) (below v h)))
      (λ v h m. ap (λ b. cond b (vars_met ds p v) true) (lt-ltb v (first_in M) (below v h)) ∙ m) (Used ds p) n (used u)
