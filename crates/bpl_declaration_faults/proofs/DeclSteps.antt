-- Parts of declarations in turn, and parameters that agree.
use Rattle.std.proofs.Common.{◌≡◌, refl, sym, ap, ◌∙◌, ℕ, ◌+◌, ◌<◌, Bool, true, false, ◌&&◌, ◌||◌, List, [], ◌∷◌, ◌++◌, length, drop, get_or, flat_map, bytes_eq, Option, Some, None, arith}
use Rattle.std.specs.Borrow.{Bor}
use Rattle.std.proofs.lemmas.List.{append_assoc}
use Rattle.logic_terms.specs.Tree.{Kind}
use Rattle.bpl_ast.specs.Place.{Name}
use Rattle.bpl_ast.specs.ExprView.{groups_of, each_groups_of, clause_of}
use Rattle.bpl_ast.specs.Tree.{Groups}
use Rattle.bpl_ast.specs.Statement.{Argument}
use Rattle.std.specs.Prelude.{Vec}
use Rattle.std.specs.declared.alloc.Global.{Global}
use Rattle.bpl_ast.specs.declared.expr.Group.{Group}
use Rattle.bpl_scopes.specs.declared.fault.Fault.{Fault}
use Rattle.bpl_scopes.specs.Fault.{earlier, first_fault}
use Rattle.bpl_scopes.specs.Functions.{argument_names, named_argument}
use Rattle.bpl_scopes.specs.Scopes.{Scope, texts_of}
use Rattle.bpl_scopes.proofs.FirstFault.{joins}
use Rattle.bpl_scopes.specs.declared.shape.Shape.{Shape}
use Rattle.bpl_scopes.specs.Shape.{kind_seen}
use Rattle.bpl_scopes.specs.KnownSorts.{shapes_seen}
use Rattle.bpl_faults.proofs.ListedNames.{next_dropped}
use Rattle.bpl_faults.specs.Arguments.{names_seen}
use Rattle.bpl_faults.specs.ExprFaults.{clause_faults, group_clause_faults}
use Rattle.bpl_declaration_faults.specs.DeclFaults.{agree, same_texts}
use Rattle.bpl_declaration_faults.specs.DeclView.{sorts_agree}

pub clauses_next : (found : Option Fault) (s : Scope) (g : Group) (gs : List Group) → earlier found (first_fault (group_clause_faults s (groups_of (g ∷ gs)))) ≡ earlier (earlier found (first_fault (clause_faults s (clause_of g.condition)))) (first_fault (group_clause_faults s (groups_of gs)))
clauses_next found s g gs = joins found (clause_faults s (clause_of g.condition)) (group_clause_faults s (groups_of gs))

pub arguments_next : (before : List Name) (a : Argument) (more : List Argument) → before ++ argument_names (a ∷ more) ≡ (before ++ named_argument a) ++ argument_names more
arguments_next before a more = sym (append_assoc before (named_argument a) (argument_names more))

pub agree_next : (j k : Option Kind) (js ks : List (Option Kind)) → agree (j ∷ js) (k ∷ ks) ≡ (sorts_agree j k && agree js ks)
agree_next None k js ks = refl
agree_next (Some j) None js ks = refl
agree_next (Some j) (Some k) js ks = refl

-- lists of different lengths don't agree
pub agree_apart : (js ks : List (Option Shape)) → (length js ≡ length ks → ⊥) → false ≡ agree (shapes_seen js) (shapes_seen ks)
agree_apart [] [] h = absurd (h refl)
agree_apart [] (k ∷ ks) h = refl
agree_apart (j ∷ js) [] h = refl
agree_apart (j ∷ js) (k ∷ ks) h = by (sorts_agree (kind_seen j) (kind_seen k)) (agree_apart js ks (λ e. h (let n : length (j ∷ js) ≡ length (k ∷ ks) = omega (arith, e) in n))) ∙ sym (agree_next (kind_seen j) (kind_seen k) (shapes_seen js) (shapes_seen ks))
  where
    by : (b : Bool) → false ≡ agree (shapes_seen js) (shapes_seen ks) → false ≡ (b && agree (shapes_seen js) (shapes_seen ks))
    by true e = e
    by false e = refl

pub texts_apart : (ms ns : List (Bor Name)) → (length ms ≡ length ns → ⊥) → false ≡ same_texts (texts_of (names_seen ms)) (texts_of (names_seen ns))
texts_apart [] [] h = absurd (h refl)
texts_apart [] (n ∷ ns) h = refl
texts_apart (m ∷ ms) [] h = refl
texts_apart (m ∷ ms) (n ∷ ns) h = by (bytes_eq (m.now).text (n.now).text) (texts_apart ms ns (λ e. h (let k : length (m ∷ ms) ≡ length (n ∷ ns) = omega (arith, e) in k)))
  where
    by : (b : Bool) → false ≡ same_texts (texts_of (names_seen ms)) (texts_of (names_seen ns)) → false ≡ (b && same_texts (texts_of (names_seen ms)) (texts_of (names_seen ns)))
    by true e = e
    by false e = refl

turned : (b c : Bool) → (b || (c || false)) ≡ (c || b)
turned true true = refl
turned true false = refl
turned false true = refl
turned false false = refl

-- the faults of locals, after those of one `var` more
pub locals_walked : (f : Groups → List Fault) (xs : List (Vec Group Global)) (i : ℕ) (x : Vec Group Global) (found after total : Option Fault) → i < length xs → x ≡ get_or xs i x → after ≡ earlier found (first_fault (f (groups_of x.items)))
    → earlier found (first_fault (flat_map f (each_groups_of (drop i xs)))) ≡ total → earlier after (first_fault (flat_map f (each_groups_of (drop (i + 1) xs)))) ≡ total
locals_walked f xs i x found after total within is step before =
    ap (λ o. earlier o (first_fault (flat_map f (each_groups_of (drop (i + 1) xs))))) step ∙ sym (joins found (f (groups_of x.items)) (flat_map f (each_groups_of (drop (i + 1) xs))))
    ∙ ap (λ l. earlier found (first_fault (flat_map f (each_groups_of l)))) (sym (next_dropped xs i x within is)) ∙ before
