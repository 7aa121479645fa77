-- The faults of lists of expressions begin with those of the first, and the sorts too.
use Rattle.std.proofs.Common.{◌≡◌, refl, sym, ap, ◌∙◌, Bool, true, false, ◌&&◌, List, [], ◌∷◌, ◌++◌, Option, Some, None}
use Rattle.logic_terms.proofs.Booleans.{and_assoc}
use Rattle.bv_base.specs.declared.place.Place.{Place}
use Rattle.logic_terms.specs.Tree.{Kind, int}
use Rattle.logic_terms.specs.Sorts.{is}
use Rattle.bpl_ast.specs.Tree.{Expr, first_place}
use Rattle.bpl_ast.specs.ExprView.{exprs_of, terms_of, indices_of, triggers_of}
use Rattle.bpl_ast.specs.declared.expr.Term.{Term}
use Rattle.bpl_ast.specs.declared.expr.Term.TheVariants.{Plus, Less}
use Rattle.bpl_ast.specs.declared.expr.Index.{Index}
use Rattle.bpl_ast.specs.declared.expr.Index.TheVariants.{Read, Write}
use Rattle.bpl_ast.specs.declared.expr.Trigger.{Trigger}
use Rattle.bpl_scopes.specs.declared.fault.Fault.{Fault}
use Rattle.bpl_scopes.specs.declared.fault.TypeKind.TheVariants.{Trigger as bad_trigger}
use Rattle.bpl_scopes.specs.Fault.{earlier, first_fault, unless}
use Rattle.bpl_scopes.specs.Scopes.{Text, Scope}
use Rattle.bpl_scopes.specs.Sorts.{sort_in, sorts_in, are_ints, indices_sort, all_are}
use Rattle.bpl_faults.specs.NameFaults.{sort_faults, map_faults, same_sort_faults, entry_sort}
use Rattle.bpl_scopes.proofs.FirstFault.{joins}
use Rattle.bpl_faults.specs.ExprFaults.{expr_faults, faults_as, operand_faults, term_faults, index_faults, pattern_faults, trigger_faults, is_trigger}

pub joins_two : (found : Option Fault) (fs gs hs : List Fault) → earlier found (first_fault (fs ++ (gs ++ hs))) ≡ earlier (earlier found (first_fault (fs ++ gs))) (first_fault hs)
joins_two found fs gs hs = joins found fs (gs ++ hs) ∙ joins (earlier found (first_fault fs)) gs hs ∙ sym (ap (λ o. earlier o (first_fault hs)) (joins found fs gs))

pub operands_next : (found : Option Fault) (s : Scope) (f : Bool) (k : Kind) (x : Expr) (xs : List Expr)
    → earlier found (first_fault (operand_faults s f k (exprs_of (x ∷ xs)))) ≡ earlier (earlier found (first_fault (faults_as s f k x))) (first_fault (operand_faults s f k (exprs_of xs)))
operands_next found s f k x xs = joins_two found (expr_faults s f x) (sort_faults k (sort_in s x) (first_place x)) (operand_faults s f k (exprs_of xs))

pub patterns_next : (found : Option Fault) (s : Scope) (x : Expr) (xs : List Expr)
    → earlier found (first_fault (pattern_faults s (exprs_of (x ∷ xs)))) ≡ earlier (earlier found (first_fault (expr_faults s false x))) (first_fault (pattern_faults s (exprs_of xs)))
patterns_next found s x xs = joins found (expr_faults s false x) (pattern_faults s (exprs_of xs))

none_behind : (fs : List Fault) → fs ++ [] ≡ fs
none_behind [] = refl
none_behind (f ∷ fs) = ap (λ gs. f ∷ gs) (none_behind fs)

pub terms_next : (found : Option Fault) (s : Scope) (t : Term) (ts : List Term)
    → earlier found (first_fault (term_faults s (terms_of (t ∷ ts)))) ≡ earlier (earlier found (first_fault (term_faults s (terms_of (t ∷ []))))) (first_fault (term_faults s (terms_of ts)))
terms_next found s (Plus x) ts = joins_two found (expr_faults s false x) (sort_faults int (sort_in s x) (first_place x)) (term_faults s (terms_of ts))
    ∙ sym (ap (λ gs. earlier (earlier found (first_fault (expr_faults s false x ++ gs))) (first_fault (term_faults s (terms_of ts)))) (none_behind (sort_faults int (sort_in s x) (first_place x))))
terms_next found s (Less x) ts = joins_two found (expr_faults s false x) (sort_faults int (sort_in s x) (first_place x)) (term_faults s (terms_of ts))
    ∙ sym (ap (λ gs. earlier (earlier found (first_fault (expr_faults s false x ++ gs))) (first_fault (term_faults s (terms_of ts)))) (none_behind (sort_faults int (sort_in s x) (first_place x))))

pub one_term : (s : Scope) (x : Expr) → expr_faults s false x ++ (sort_faults int (sort_in s x) (first_place x) ++ []) ≡ faults_as s false int x
one_term s x = ap (λ gs. expr_faults s false x ++ gs) (none_behind (sort_faults int (sort_in s x) (first_place x)))

pub ints_next : (s : Scope) (t : Term) (ts : List Term) → are_ints s (terms_of (t ∷ ts)) ≡ (are_ints s (terms_of (t ∷ [])) && are_ints s (terms_of ts))
ints_next s (Plus x) ts = by (is int (sort_in s x))
  where
    by : (b : Bool) → (b && are_ints s (terms_of ts)) ≡ ((b && true) && are_ints s (terms_of ts))
    by true = refl
    by false = refl
ints_next s (Less x) ts = by (is int (sort_in s x))
  where
    by : (b : Bool) → (b && are_ints s (terms_of ts)) ≡ ((b && true) && are_ints s (terms_of ts))
    by true = refl
    by false = refl

pub index_sort_next : (s : Scope) (m : Option Kind) (i : Index) (is : List Index) → indices_sort s m (indices_of (i ∷ is)) ≡ indices_sort s (indices_sort s m (indices_of (i ∷ []))) (indices_of is)
index_sort_next s m (Read x) is = refl
index_sort_next s m (Write x y) is = refl

behind : (fs gs hs : List Fault) → (fs ++ gs) ++ hs ≡ fs ++ (gs ++ hs)
behind [] gs hs = refl
behind (f ∷ fs) gs hs = ap (λ l. f ∷ l) (behind fs gs hs)

index_faults_next : (s : Scope) (p : Place) (m : Option Kind) (i : Index) (is : List Index)
    → index_faults s p m (indices_of (i ∷ is)) ≡ index_faults s p m (indices_of (i ∷ [])) ++ index_faults s p (indices_sort s m (indices_of (i ∷ []))) (indices_of is)
index_faults_next s p m (Read x) is = search (behind, none_behind)
index_faults_next s p m (Write x y) is = search (behind, none_behind)

pub indices_next : (found : Option Fault) (s : Scope) (p : Place) (m : Option Kind) (i : Index) (is : List Index)
    → earlier found (first_fault (index_faults s p m (indices_of (i ∷ is)))) ≡ earlier (earlier found (first_fault (index_faults s p m (indices_of (i ∷ []))))) (first_fault (index_faults s p (indices_sort s m (indices_of (i ∷ []))) (indices_of is)))
indices_next found s p m i is = ap (λ fs. earlier found (first_fault fs)) (index_faults_next s p m i is) ∙ joins found (index_faults s p m (indices_of (i ∷ []))) (index_faults s p (indices_sort s m (indices_of (i ∷ []))) (indices_of is))

pub triggers_next : (found : Option Fault) (s : Scope) (vs : List Text) (t : Trigger) (ts : List Trigger)
    → earlier found (first_fault (trigger_faults s vs (triggers_of (t ∷ ts)))) ≡ earlier (earlier (earlier found (first_fault (unless (is_trigger vs (exprs_of t.patterns.items)) bad_trigger t.at))) (first_fault (pattern_faults s (exprs_of t.patterns.items)))) (first_fault (trigger_faults s vs (triggers_of ts)))
triggers_next found s vs t ts = joins found (unless (is_trigger vs (exprs_of t.patterns.items)) bad_trigger t.at) (pattern_faults s (exprs_of t.patterns.items) ++ trigger_faults s vs (triggers_of ts))
    ∙ joins (earlier found (first_fault (unless (is_trigger vs (exprs_of t.patterns.items)) bad_trigger t.at))) (pattern_faults s (exprs_of t.patterns.items)) (trigger_faults s vs (triggers_of ts))

pub all_next : (s : Scope) (k : Kind) (x : Expr) (xs : List Expr) → all_are k (sorts_in s (exprs_of (x ∷ xs))) ≡ (is k (sort_in s x) && all_are k (sorts_in s (exprs_of xs)))
all_next s k x xs = refl
