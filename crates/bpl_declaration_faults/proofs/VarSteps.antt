-- Variables of names in turn.
use Rattle.std.proofs.Common.{◌≡◌, refl, sym, ap, ◌∙◌, ℕ, ◌+◌, List, [], ◌∷◌, ◌++◌, length, Option, arith}
use Rattle.std.specs.Prelude.{Vec}
use Rattle.std.proofs.lemmas.List.{append_assoc}
use Rattle.std.specs.declared.alloc.Global.{Global}
use Rattle.logic_terms.specs.Tree.{Kind}
use Rattle.bpl_ast.specs.Place.{Name, Ty}
use Rattle.bpl_ast.specs.ExprView.{groups_of, each_groups_of}
use Rattle.bpl_ast.specs.declared.expr.Group.{Group}
use Rattle.bpl_scopes.specs.declared.part.Role.{Role}
use Rattle.bpl_scopes.specs.Scopes.{Text, Table, Var, typed_names, names_of, only_names}
use Rattle.bpl_scopes.specs.Sorts.{sort_of_type}
use Rattle.bpl_scopes.proofs.Declared.{typed_length}
use Rattle.bpl_statement_faults.proofs.CallSteps.{only_joined}
use Rattle.bpl_declaration_faults.specs.Variables.{vars_from, locals_of}
use Rattle.bpl_declaration_faults.specs.DeclView.{vars_named}

pub named_next : (vs : List Var) (s : Option Kind) (r : Role) (k : ℕ) (n : Name) (ns : List Name) → vs ++ vars_named s r k (n ∷ ns) ≡ (vs ++ record { name = n.text; role = r; number = k; sort = s } ∷ []) ++ vars_named s r (k + 1) ns
named_next vs s r k n ns = sym (append_assoc vs (record { name = n.text; role = r; number = k; sort = s } ∷ []) (vars_named s r (k + 1) ns))

vars_append : (t : Table) (h : List Text) (r : Role) (k : ℕ) (ps qs : List (Name × Ty)) → vars_from t h r k (ps ++ qs) ≡ vars_from t h r k ps ++ vars_from t h r (k + length ps) qs
vars_append t h r k [] qs = ap (λ n. vars_from t h r n qs) (omega arith)
vars_append t h r k (p ∷ ps) qs = ap (λ vs. record { name = (p.0).text; role = r; number = k; sort = sort_of_type t h p.1 } ∷ vs) (vars_append t h r (k + 1) ps qs ∙ ap (λ n. vars_from t h r (k + 1) ps ++ vars_from t h r n qs) (omega arith))

named_typed : (t : Table) (h : List Text) (r : Role) (k : ℕ) (ns : List Name) (s : Ty) → vars_from t h r k (typed_names ns s) ≡ vars_named (sort_of_type t h s) r k ns
named_typed t h r k [] s = refl
named_typed t h r k (n ∷ ns) s = ap (λ vs. record { name = n.text; role = r; number = k; sort = sort_of_type t h s } ∷ vs) (named_typed t h r (k + 1) ns s)

pub groups_next : (vs : List Var) (t : Table) (h : List Text) (r : Role) (k : ℕ) (s : Option Kind) (g : Group) (gs : List Group) → s ≡ sort_of_type t h g.of
    → vs ++ vars_from t h r k (names_of (groups_of (g ∷ gs))) ≡ (vs ++ vars_named s r k g.names.items) ++ vars_from t h r (k + length g.names.items) (names_of (groups_of gs))
groups_next vs t h r k s g gs e = ap (λ l. vs ++ l) (vars_append t h r k (typed_names g.names.items g.of) (names_of (groups_of gs)))
    ∙ ap (λ l. vs ++ (l ++ vars_from t h r (k + length (typed_names g.names.items g.of)) (names_of (groups_of gs)))) (named_typed t h r k g.names.items g.of ∙ ap (λ j. vars_named j r k g.names.items) (sym e))
    ∙ ap (λ n. vs ++ (vars_named s r k g.names.items ++ vars_from t h r (k + n) (names_of (groups_of gs)))) (typed_length g.names.items g.of)
    ∙ sym (append_assoc vs (vars_named s r k g.names.items) (vars_from t h r (k + length g.names.items) (names_of (groups_of gs))))

pub locals_next : (vs : List Var) (t : Table) (h : List Text) (r : Role) (k : ℕ) (v : Vec Group Global) (ws : List (Vec Group Global))
    → vs ++ vars_from t h r k (locals_of (each_groups_of (v ∷ ws))) ≡ (vs ++ vars_from t h r k (names_of (groups_of v.items))) ++ vars_from t h r (k + length (names_of (groups_of v.items))) (locals_of (each_groups_of ws))
locals_next vs t h r k v ws = ap (λ l. vs ++ l) (vars_append t h r k (names_of (groups_of v.items)) (locals_of (each_groups_of ws)))
    ∙ sym (append_assoc vs (vars_from t h r k (names_of (groups_of v.items))) (vars_from t h r (k + length (names_of (groups_of v.items))) (locals_of (each_groups_of ws))))

pub local_names_next : (ns : List Name) (v : Vec Group Global) (ws : List (Vec Group Global)) → ns ++ only_names (locals_of (each_groups_of (v ∷ ws))) ≡ (ns ++ only_names (names_of (groups_of v.items))) ++ only_names (locals_of (each_groups_of ws))
local_names_next ns v ws = ap (λ l. ns ++ l) (only_joined (names_of (groups_of v.items)) (locals_of (each_groups_of ws))) ∙ sym (append_assoc ns (only_names (names_of (groups_of v.items))) (only_names (locals_of (each_groups_of ws))))
