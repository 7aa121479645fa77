-- Two readings of user types: in the erased declarations they are integers, in those told apart each is another sort. What the two sorts of a construct say of its type.
use Rattle.std.specs.Prelude.{◌≡◌, ⊤, Bool, Some, Option, List, [], ◌∷◌, slice_get}
use Rattle.logic_core.specs.Tree.{Kind}
use Rattle.bpl_ast.specs.Place.{Ty as Written}
use Rattle.bpl_scopes.specs.Scopes.{Text, Heading, Table, BoundVar, Scope, meaning, free_meaning, var_of, has_name}
use Rattle.bpl_scopes.specs.Sorts.{sort_of_type, argument_sorts, sort_of_meaning, applied_heading}
use Rattle.bpl_scopes.specs.Functions.{function_number}
use Rattle.bpl_terms.specs.Terms.{meaning_term}
use Rattle.bpl_sorts.specs.Types.{Ty, kind_of, Head}
use Rattle.bpl_sorts.specs.Typed.{HasType}
use Rattle.bpl_sorts.specs.Apart.{apart}

-- the type has these sorts, where there are any
abbrev pub Fits : Option Kind → Option Kind → Ty → Type 0
Fits o p t = (j k : Kind) → o ≡ Some j → p ≡ Some k → (kind_of t ≡ j) × (apart t ≡ k)

-- where there are sorts, there is a type with them of which P holds
abbrev pub Has : Option Kind → Option Kind → (Ty → Type 0) → Type 0
Has o p P = (j k : Kind) → o ≡ Some j → p ≡ Some k → (t : Ty) × (kind_of t ≡ j) × (apart t ≡ k) × P t

-- as many, and each type has its sorts
abbrev pub EachFits : List (Option Kind) → List (Option Kind) → List Ty → Type 0
EachFits [] [] [] = ⊤
EachFits (o ∷ os) (p ∷ ps) (t ∷ ts) = Fits o p t × EachFits os ps ts
EachFits os ps ts = ⊥

-- bound variables of the two readings, and their types
abbrev pub BoundsAlike : List BoundVar → List BoundVar → List Ty → Type 0
BoundsAlike [] [] [] = ⊤
BoundsAlike (u ∷ us) (v ∷ vs) (t ∷ ts) = ((n : Text) → has_name n u.name ≡ has_name n v.name) × Fits u.sort v.sort t × BoundsAlike us vs ts
BoundsAlike us vs ts = ⊥

module _ (vars : List Ty) (heads : List Head) (type_of : Written → Ty) where
  -- a function that is applied, by its declarations in both readings
  pub record IsHead (s t : Table) (n : Text) (h j : Heading) : Type 0 where
    pub head : Head
    pub there : slice_get heads (function_number s n) ≡ Some head
    pub arguments : EachFits (argument_sorts s h.ins) (argument_sorts t j.ins) head.0
    pub result : Fits (sort_of_type s [] h.result) (sort_of_type t [] j.result) head.1

  -- each name stands for one thing in both scopes, whose type the lists have at its number
  pub record Alike (s t : Scope) : Type 0 where
    pub free_names : (b : List Ty) (in_old : Bool) (n : Text) → Has (sort_of_meaning s (free_meaning s n (var_of s.vars n))) (sort_of_meaning t (free_meaning t n (var_of t.vars n)))
        (HasType vars heads b (meaning_term in_old s.counts (free_meaning s n (var_of s.vars n))))
    pub functions : (us vs : List BoundVar) (n : Text) (h j : Heading) → applied_heading (meaning (record s { bounds = us }) n) ≡ Some h → applied_heading (meaning (record t { bounds = vs }) n) ≡ Some j
        → IsHead s.table t.table n h j
    pub types : (hidden others : List Text) (w : Written) → Fits (sort_of_type s.table hidden w) (sort_of_type t.table others w) (type_of w)
