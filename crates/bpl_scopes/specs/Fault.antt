-- The numbers of the kinds of fault, the faults of a declaration, and the first of them.
use Rattle.std.specs.Prelude.{ℕ, Bool, true, false, List, [], ◌∷◌, ◌++◌, Option, Some, None}
use Rattle.bv_base.specs.Text.{is_among}
use Rattle.bv_base.specs.declared.place.Place.{Place}
use Rattle.std.specs.declared.cmp.Ordering.{Ordering}
use Rattle.std.specs.declared.cmp.Ordering.TheVariants.{Less, Equal, Greater}
use Rattle.std.specs.Ordering.{nat_cmp, ordering_then}
use Rattle.bpl_ast.specs.Place.{Name}
use Rattle.bpl_scopes.specs.declared.fault.TypeKind.{TypeKind}
use Rattle.bpl_scopes.specs.declared.fault.TypeKind.TheVariants.{Twice as twice, Unknown as unknown, Kind as wrong_kind, Sort as wrong_sort, Arity as arity, NotAssignable as not_assignable, NotModified as not_modified, TargetTwice as target_twice, OldHere as old_here, QuantifierHere as quantifier_here, Trigger as bad_trigger, BreakHere as break_here, Cycle as cycle, Unbuilt as unbuilt, GotoHere as goto_here, Labels as many_labels}
use Rattle.bpl_scopes.specs.declared.fault.Construct.TheVariants.{WhereWord as where_word, TypeWord as type_word, UniqueWord as unique_word, Uninterpreted as uninterpreted, Polymorphic as polymorphic, Domain as domain}
use Rattle.bpl_scopes.specs.declared.fault.Fault.{Fault}

abbrev pub number : TypeKind → ℕ
number twice = 1
number unknown = 2
number wrong_kind = 3
number wrong_sort = 4
number arity = 5
number not_assignable = 6
number not_modified = 7
number target_twice = 8
number old_here = 9
number quantifier_here = 10
number bad_trigger = 11
number break_here = 12
number cycle = 13
number (unbuilt c) = 14
number goto_here = 15
number many_labels = 16

-- of two constructs at one place the first of these is named
abbrev pub construct_number : TypeKind → ℕ
construct_number (unbuilt where_word) = 1
construct_number (unbuilt type_word) = 2
construct_number (unbuilt unique_word) = 3
construct_number (unbuilt uninterpreted) = 4
construct_number (unbuilt polymorphic) = 5
construct_number (unbuilt domain) = 6
construct_number k = 0

abbrev pub fault : TypeKind → Place → List Fault
fault k p = record { at = p; kind = k } ∷ []

-- the fault, where a test fails
abbrev pub unless : Bool → TypeKind → Place → List Fault
unless true k p = []
unless false k p = fault k p

-- the fault, where a test holds
abbrev pub if_so : Bool → TypeKind → Place → List Fault
if_so true k p = fault k p
if_so false k p = []

-- the fault at each name that stands before, among these names or earlier in the list
abbrev pub again : TypeKind → List (List ℕ) → List Name → List Fault
again k before [] = []
again k before (n ∷ ns) = if_so (is_among before n.text) k n.at ++ again k (n.text ∷ before) ns

-- by place, then number
abbrev pub order : Fault → Fault → Ordering
order f g = ordering_then (nat_cmp f.at.line g.at.line) (ordering_then (nat_cmp f.at.col g.at.col)
    (ordering_then (nat_cmp (number f.kind) (number g.kind)) (nat_cmp (construct_number f.kind) (construct_number g.kind))))

abbrev pub chosen : Ordering → Fault → Fault → Fault
chosen Less f g = g
chosen Equal f g = f
chosen Greater f g = f

-- of two faults the second where it stands before, and else the first
unfoldable pub first_of_two : Fault → Fault → Fault
first_of_two f g = chosen (order g f) f g

abbrev pub earlier : Option Fault → Option Fault → Option Fault
earlier None g = g
earlier (Some f) None = Some f
earlier (Some f) (Some g) = Some (first_of_two f g)

-- the first of a declaration's faults
abbrev pub first_fault : List Fault → Option Fault
first_fault [] = None
first_fault (f ∷ fs) = earlier (Some f) (first_fault fs)
