-- Of what goes before a declaration it counts only which names are there, and not their order.
use Rattle.std.proofs.Common.{◌≡◌, refl, sym, ap, ◌∙◌, ℕ, ◌+◌, Bool, true, false, ◌||◌, ◌&&◌, cond, List, [], ◌∷◌, ◌++◌, flat_map, reverse, Option, Some, None, bytes_eq}
use Rattle.std.specs.List.{list_any}
use Rattle.std.proofs.lemmas.List.{reverse-append}
use Rattle.std.proofs.lemmas.List.Folds.{list_any-append}
use Rattle.bpl_ast.specs.Place.{Name, Params}
use Rattle.bpl_ast.specs.Statement.{Body, Signature, Spec, DeclBody, constant, function, axiom_of, variables, synonym, procedure, implementation, Decl}
use Rattle.bpl_scopes.specs.declared.fault.TypeKind.{TypeKind}
use Rattle.bpl_scopes.specs.declared.fault.TypeKind.TheVariants.{Twice as twice}
use Rattle.bpl_scopes.specs.declared.fault.Fault.{Fault}
use Rattle.bv_base.specs.Text.{is_among}
use Rattle.bpl_scopes.specs.Fault.{again, if_so, earlier, first_fault}
use Rattle.bpl_scopes.specs.declared.part.Part.TheVariants.{ClauseOfGlobal as in_clause_of_global}
use Rattle.bpl_scopes.specs.Scopes.{Text, contract_with, Table, Counts, names_of, only_names, texts_of, declared_names, entity_of}
use Rattle.bpl_scopes.specs.Functions.{argument_names}
use Rattle.bpl_scopes.specs.TypeFaults.{params_faults, type_faults, group_type_faults, group_where_faults}
use Rattle.bpl_faults.specs.ExprFaults.{group_clause_faults}
use Rattle.bpl_faults.proofs.ListedNames.{among_reversed}
use Rattle.bpl_statement_faults.specs.StmtFaults.{modified_by}
use Rattle.bpl_declaration_faults.specs.Variables.{scope_of, names_in_body}
use Rattle.bpl_declaration_faults.specs.DeclFaults.{unique_faults, cycle_faults, argument_type_faults, function_value_faults, synonym_faults, signature_faults, parameter_clause_faults, optional_locals, spec_faults, optional_body_faults, implemented_faults, implemented_modifies, body_faults, Before, before_with, has_body, body_names, decl_faults, faults_after, first_from, in_decl}

-- the same names
abbrev pub Same : List Text → List Text → Type 0
Same ms ns = (n : Text) → is_among ms n ≡ is_among ns n

again_same : (k : TypeKind) (ms ns : List Text) (names : List Name) → Same ms ns → again k ms names ≡ again k ns names
again_same k ms ns [] h = refl
again_same k ms ns (n ∷ names) h = λ i. if_so (h n.text i) k n.at ++ again_same k (n.text ∷ ms) (n.text ∷ ns) names (λ m j. bytes_eq m n.text || h m j) i

decl_same : (t : Table) (c : Counts) (b d : Before) (x : DeclBody) → Same b.names d.names → Same b.bodies d.bodies → decl_faults t c b x ≡ decl_faults t c d x
decl_same t c b d (constant u ns s) h g = ap (λ fs. unique_faults u ++ (fs ++ type_faults t [] s)) (again_same twice b.names d.names ns h)
decl_same t c b d (function n ps ins r x) h g = ap (λ fs. fs ++ (cycle_faults t n ++ (params_faults ps ++ (again twice [] (argument_names ins) ++ (argument_type_faults t ins ++ (type_faults t [] r ++ function_value_faults t c n ins r x)))))) (again_same twice b.names d.names (n ∷ []) h)
decl_same t c b d (axiom_of x) h g = refl
decl_same t c b d (variables gs) h g = ap (λ fs. fs ++ (group_type_faults t [] gs ++ group_clause_faults (scope_of t c in_clause_of_global []) gs)) (again_same twice b.names d.names (only_names (names_of gs)) h)
decl_same t c b d (synonym n s) h g = ap (λ fs. fs ++ (cycle_faults t n ++ synonym_faults t s)) (again_same twice b.names d.names (n ∷ []) h)
decl_same t c b d (procedure n ps s ss y) h g = λ i. again_same twice b.names d.names (n ∷ []) h i ++ (if_so (has_body y && g n.text i) twice n.at
    ++ (signature_faults t ps s ++ (parameter_clause_faults t c s ++ (again twice [] (names_in_body s (optional_locals y)) ++ (flat_map (spec_faults t c s) ss ++ optional_body_faults t c s (Some (modified_by t (contract_with s ss))) y)))))
decl_same t c b d (implementation n ps s y) h g = λ i. if_so (g n.text i) twice n.at ++ (implemented_faults t (entity_of t n.text) s n.at
    ++ (signature_faults t ps s ++ (group_where_faults s.ins ++ (group_where_faults s.outs ++ (again twice [] (names_in_body s y.locals) ++ body_faults t c s (implemented_modifies t (entity_of t n.text)) y)))))

more_same : (ls ms ns : List Text) → Same ms ns → Same (ls ++ ms) (ls ++ ns)
more_same [] ms ns h n = h n
more_same (l ∷ ls) ms ns h n = λ i. bytes_eq n l || more_same ls ms ns h n i

after_same : (t : Table) (c : Counts) (b d : Before) (xs : List Decl) → Same b.names d.names → Same b.bodies d.bodies → faults_after t c b xs ≡ faults_after t c d xs
after_same t c b d [] h g = refl
after_same t c b d (x ∷ xs) h g = λ i. decl_same t c b d x.body h g i
    ∷ after_same t c (before_with b x.body) (before_with d x.body) xs (more_same (texts_of (declared_names x.body)) b.names d.names h) (more_same (body_names x.body) b.bodies d.bodies g) i

either_way : (a b : Bool) → (a || b) ≡ (b || a)
either_way true true = refl
either_way true false = refl
either_way false true = refl
either_way false false = refl

-- names that are put behind others, the last first
put_behind : (ms ns : List Text) → Same (ns ++ reverse ms) (reverse (ms ++ ns))
put_behind ms ns n = list_any-append (bytes_eq n) ns (reverse ms) ∙ (λ i. is_among ns n || among_reversed ms n i) ∙ either_way (is_among ns n) (is_among ms n)
    ∙ sym (list_any-append (bytes_eq n) ms ns) ∙ sym (among_reversed (ms ++ ns) n)

-- the declarations behind one without a fault
pub none_here : (t : Table) (c : Counts) (k : ℕ) (names bodies more others : List Text) (x : Decl) (xs : List Decl) → more ≡ names ++ texts_of (declared_names x.body) → others ≡ bodies ++ body_names x.body
    → first_fault (decl_faults t c (record { names = reverse names; bodies = reverse bodies }) x.body) ≡ None
    → first_from k (faults_after t c (record { names = reverse names; bodies = reverse bodies }) (x ∷ xs)) ≡ first_from (k + 1) (faults_after t c (record { names = reverse more; bodies = reverse others }) xs)
none_here t c k names bodies more others x xs put given none =
    ap (λ f. in_decl k f (first_from (k + 1) (faults_after t c (before_with (record { names = reverse names; bodies = reverse bodies }) x.body) xs))) none
    ∙ ap (first_from (k + 1)) (after_same t c (before_with (record { names = reverse names; bodies = reverse bodies }) x.body) (record { names = reverse (names ++ texts_of (declared_names x.body)); bodies = reverse (bodies ++ body_names x.body) }) xs
    (put_behind names (texts_of (declared_names x.body))) (put_behind bodies (body_names x.body)))
    ∙ (λ i. first_from (k + 1) (faults_after t c (record { names = reverse (sym put i); bodies = reverse (sym given i) }) xs))

-- a declaration with a fault
pub fault_here : (t : Table) (c : Counts) (b : Before) (k : ℕ) (x : Decl) (xs : List Decl) (f : Fault) → first_fault (decl_faults t c b x.body) ≡ Some f → first_from k (faults_after t c b (x ∷ xs)) ≡ Some (k, f)
fault_here t c b k x xs f some = ap (λ g. in_decl k g (first_from (k + 1) (faults_after t c (before_with b x.body) xs))) some

-- a procedure's own body
pub own_bodies : (n : Name) (ps : Option Params) (g : Signature) (ss : List Spec) (b : Option Body) → body_names (procedure n ps g ss b) ≡ cond (has_body b) (n.text ∷ []) []
own_bodies n ps g ss None = refl
own_bodies n ps g ss (Some b) = refl
