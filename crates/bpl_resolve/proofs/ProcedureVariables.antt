-- The variables of a procedure stand at their numbers: their sorts and their names, in lists of those.
use Rattle.std.proofs.Common.{◌≡◌, refl, ap, sym, ◌∙◌, inl, inr, ◌⊎◌, subst, ℕ, suc, ◌+◌, ◌≤◌, arith, Bool, true, false, List, [], ◌∷◌, ◌++◌, append_assoc, append-nil, map, length, length-append, Some}
use Rattle.std.specs.Prelude.{bytes_eq, find, cond, flat_map, slice_get}
use Rattle.std.specs.List.{AllByRecursion}
use Rattle.logic_core.proofs.EachOf.{every_append}
use Rattle.bpl_ast.specs.Place.{Name, Ty}
use Rattle.bpl_ast.specs.Tree.{Groups}
use Rattle.bpl_ast.specs.Statement.{Signature}
use Rattle.bpl_scopes.specs.declared.part.Role.{Role}
use Rattle.bpl_scopes.specs.declared.part.Role.TheVariants.{In as in_parameter, Out as out_parameter, Local as local_variable}
use Rattle.bpl_scopes.specs.Scopes.{Text, Table, Counts, names_of, texts_of, signature_names, Var, Scope, var_of}
use Rattle.bpl_scopes.specs.Sorts.{sort_of_type, sorts_of_names}
use Rattle.bpl_declaration_faults.specs.Variables.{first_parameter, vars_from, in_vars, out_vars, local_vars, parameters, body_vars, locals_of, names_in_body}
use Rattle.bpl_terms.specs.Terms.{sort_or_int}
use Rattle.bpl_resolve.specs.Elaborate.{clause_terms}
use Rattle.bpl_resolve.proofs.Faultless.{EachKnown, TypesKnown}
use Rattle.bpl_resolve.proofs.Ways.{same_text}
use Rattle.bpl_resolve.proofs.Numbered.{slice_at, length_clauses}
use Rattle.bpl_resolve.proofs.ModuleSorts.{length_vars}

pub map_length : {A B : Type 0} (f : A → B) (xs : List A) → length (map f xs) ≡ length xs
map_length f [] = refl
map_length f (x ∷ xs) = ap suc (map_length f xs)

-- the variable of a name
pub var_found : (P : Var → Type 0) (vs : List Var) (n : Text) (v : Var) → AllByRecursion P vs → var_of vs n ≡ Some v → P v × (v.name ≡ n)
var_found P [] n v h e = cc
var_found P (u ∷ vs) n v h e = by (var_found P vs n v h.1) (bytes_eq u.name n) refl e
  where
    same_var : (a b : Var) → Some a ≡ Some b → a ≡ b
    same_var a b z = cc

    by : (var_of vs n ≡ Some v → P v × (v.name ≡ n)) → (r : Bool) → bytes_eq u.name n ≡ r → find (λ (w : Var). bytes_eq w.name n) (u ∷ vs) ≡ Some v → P v × (v.name ≡ n)
    by later true g z =
        let q = same_var u v (subst (λ w. cond w (Some u) (var_of vs n) ≡ Some v) g z) in
        subst (λ w. P w × (w.name ≡ n)) q (h.0, same_text u.name n g)
    by later false g z = later (subst (λ w. cond w (Some u) (var_of vs n) ≡ Some v) g z)

-- a column of a procedure's variables stands at their numbers
module _ {A : Type 0} (F : Var → A) (t : Table) where
  abbrev pub At : List A → List Var → Type 0
  At V vs = AllByRecursion (λ (v : Var). slice_get V v.number ≡ Some (F v)) vs

  column : (pre more : List A) (hidden : List Text) (r : Role) (k : ℕ) (ps : List (Name × Ty)) → length pre ≡ k → At (pre ++ (map F (vars_from t hidden r k ps) ++ more)) (vars_from t hidden r k ps)
  column pre more hidden r k [] e = tt
  column pre more hidden r k (p ∷ ps) e =
      let a : A = F (record { name = (p.0).text; role = r; number = k; sort = sort_of_type t hidden p.1 }) in (
        slice_at pre a _ k e,
        subst (λ w. At w (vars_from t hidden r (k + 1) ps)) (append_assoc pre (a ∷ []) (map F (vars_from t hidden r (k + 1) ps) ++ more))
            (column (pre ++ (a ∷ [])) more hidden r (k + 1) ps (length-append pre (a ∷ []) ∙ ap (λ w. w + 1) e)),
      )

  long : (pre : List A) (hidden : List Text) (r : Role) (k j : ℕ) (ps : List (Name × Ty)) → length pre ≡ k → length (pre ++ map F (vars_from t hidden r j ps)) ≡ k + length ps
  long pre hidden r k j ps e = length-append pre _ ∙ λ i. e i + (map_length F (vars_from t hidden r j ps) ∙ length_vars t hidden r j ps) i

  pub columns : (c : Counts) (g : Signature) (vs : List Groups) (pre : List A) → length pre ≡ first_parameter c
      → At (pre ++ (map F (in_vars t c g) ++ (map F (out_vars t c g) ++ map F (local_vars t c g vs)))) (body_vars t c g vs)
  columns c g vs pre e =
      let I = map F (in_vars t c g) in
      let O = map F (out_vars t c g) in
      let L = map F (local_vars t c g vs) in
      let h = texts_of (signature_names g) in
      let k = first_parameter c in
      let l1 = long pre h in_parameter k k (names_of g.ins) e in
      let l2 = long (pre ++ I) h out_parameter (k + length (names_of g.ins)) (k + length (names_of g.ins)) (names_of g.outs) l1 in
      let l3 : length ((pre ++ I) ++ O) ≡ k + (length (names_of g.ins) + length (names_of g.outs)) = omega (arith, l2) in
      let a = column pre (O ++ L) h in_parameter k (names_of g.ins) e in
      let b = subst (λ w. At w (out_vars t c g)) (append_assoc pre I (O ++ L)) (column (pre ++ I) L h out_parameter (k + length (names_of g.ins)) (names_of g.outs) l1) in
      let d = subst (λ w. At w (local_vars t c g vs)) (append_assoc (pre ++ I) O (L ++ []) ∙ (append_assoc pre I (O ++ (L ++ [])) ∙ ap (λ w. pre ++ (I ++ (O ++ w))) (append-nil L)))
      (column ((pre ++ I) ++ O) [] (texts_of (names_in_body g vs)) local_variable (k + (length (names_of g.ins) + length (names_of g.outs))) (locals_of vs) l3) in
      every_append _ (parameters t c g) (local_vars t c g vs) (every_append _ (in_vars t c g) (out_vars t c g) a b) d

-- an in-parameter, or a number from there on
abbrev pub Later : ℕ → Var → Type 0
Later k v = (v.role ≡ in_parameter) ⊎ (k ≤ v.number)

all_ins : (t : Table) (hidden : List Text) (o k : ℕ) (ps : List (Name × Ty)) → AllByRecursion (Later o) (vars_from t hidden in_parameter k ps)
all_ins t hidden o k [] = tt
all_ins t hidden o k (p ∷ ps) = (inl refl, all_ins t hidden o (k + 1) ps)

all_later : (t : Table) (hidden : List Text) (r : Role) (o k : ℕ) (ps : List (Name × Ty)) → o ≤ k → AllByRecursion (Later o) (vars_from t hidden r k ps)
all_later t hidden r o k [] h = tt
all_later t hidden r o k (p ∷ ps) h = (inr h, all_later t hidden r o (k + 1) ps (omega (arith, h)))

pub body_later : (t : Table) (c : Counts) (g : Signature) (vs : List Groups) → AllByRecursion (Later (first_parameter c + length (names_of g.ins))) (body_vars t c g vs)
body_later t c g vs = let o = first_parameter c + length (names_of g.ins) in
    every_append _ (parameters t c g) (local_vars t c g vs) (every_append _ (in_vars t c g) (out_vars t c g) (all_ins t _ o _ (names_of g.ins)) (all_later t _ out_parameter o _ (names_of g.outs) (omega arith)))
    (all_later t _ local_variable o _ (locals_of vs) (omega arith))

pub kinds_same : (t : Table) (hidden : List Text) (r : Role) (k : ℕ) (ps : List (Name × Ty)) → map (λ (v : Var). sort_or_int v.sort) (vars_from t hidden r k ps) ≡ map sort_or_int (sorts_of_names t hidden ps)
kinds_same t hidden r k [] = refl
kinds_same t hidden r k (p ∷ ps) = ap (λ w. sort_or_int (sort_of_type t hidden p.1) ∷ w) (kinds_same t hidden r (k + 1) ps)

pub each_known : (t : Table) (hidden : List Text) (ps : List (Name × Ty)) → TypesKnown t hidden ps → EachKnown (sorts_of_names t hidden ps)
each_known t hidden [] h = tt
each_known t hidden (p ∷ ps) h = (h.0, each_known t hidden ps h.1)

pub length_all_clauses : (s : Scope) (vs : List Groups) → length (flat_map (clause_terms s) vs) ≡ length (locals_of vs)
length_all_clauses s [] = refl
length_all_clauses s (g ∷ vs) = length-append (clause_terms s g) _ ∙ ((λ i. length_clauses s g i + length_all_clauses s vs i) ∙ sym (length-append (names_of g) (locals_of vs)))
