-- Maps over types, how many user types stand before a name, and the types of groups of variables.
use Rattle.std.proofs.Common.{◌≡◌, refl, sym, ap, ◌∙◌, ℕ, zero, suc, ◌+◌, ◌-◌, ◌<◌, arith, Bool, true, false, cond, List, [], ◌∷◌, ◌++◌, append_assoc, map, length, drop, get_or, Option, Some, None}
use Rattle.std.proofs.lemmas.List.{map-append}
use Rattle.std.specs.Prelude.{Vec, bytes_eq, option_map, slice_get}
use Rattle.std.specs.Borrow.{Bor}
use Rattle.std.specs.declared.alloc.Global.{Global}
use Rattle.bv_base.proofs.EitherWay.{either_way}
use Rattle.bpl_ast.specs.Place.{Name, Ty as Written, integer, boolean, named, map_type}
use Rattle.bpl_ast.specs.ExprView.{groups_of, each_groups_of}
use Rattle.bpl_ast.specs.declared.expr.Group.{Group}
use Rattle.bpl_scopes.specs.KnownSorts.{names_in}
use Rattle.bpl_scopes.specs.Positions.{first_at, or_other}
use Rattle.bpl_scopes.specs.Scopes.{Text, Table, Entry, typed_names, names_of}
use Rattle.bpl_declaration_faults.specs.Variables.{locals_of}
use Rattle.bpl_faults.proofs.ListedNames.{next_dropped}
use Rattle.bpl_sorts.specs.Types.{Ty, integers, maps}
use Rattle.bpl_sorts.specs.TypeNames.{users_in, number_of, users_before, type_in, type_after, type_over}
use Rattle.bpl_sorts.specs.TypeShapes.{nested, map_depth, innermost, base_type, end_type, end_in, walk_type}
use Rattle.bpl_sorts.specs.DeclaredTypes.{types_named}
use Rattle.bpl_sorts.specs.declared.type_names.Base.{Base}
use Rattle.bpl_sorts.specs.declared.type_names.End.{End}
use Rattle.bpl_sorts.specs.declared.type_names.End.TheVariants.{Here, Named}
use Rattle.bpl_sorts.specs.declared.type_names.Walk.{Walk}

nested_more : (m n : ℕ) (t : Ty) → nested (m + n) t ≡ nested m (nested n t)
nested_more zero n t = ap (λ k. nested k t) (let z : 0 + n ≡ n = omega arith in z)
nested_more (suc m) n t = ap (λ k. nested k t) (let z : suc m + n ≡ suc (m + n) = omega arith in z) ∙ ap maps (nested_more m n t)

pub nested_within : (m n k : ℕ) (t : Ty) → k ≡ m + n → nested k t ≡ nested m (nested n t)
nested_within m n k t e = ap (λ j. nested j t) e ∙ nested_more m n t

-- a written type is so many maps over its end
ends : (f : Text → Ty) (w : Written) → nested (map_depth w) (end_in f (innermost w)) ≡ type_in f w
ends f (integer p) = refl
ends f (boolean p) = refl
ends f (named p n) = refl
ends f (map_type p ps ds r) = ap (λ k. nested k (end_in f (innermost r))) (let z : map_depth r + 1 ≡ suc (map_depth r) = omega arith in z) ∙ ap maps (ends f r)

pub written_is : (f : Text → Ty) (w : Written) (k : ℕ) (e : End) (x : Written) → k ≡ map_depth w → x ≡ innermost w → ((g : Text → Ty) → end_type g e ≡ end_in g x) → nested k (end_type f e) ≡ type_in f w
written_is f w k e x d i h = ap (λ t. nested k t) (h f) ∙ ((λ j. nested (d j) (end_in f (i j))) ∙ ends f w)

-- at the first place of the name, or at the end
numbers_from : (k : ℕ) (t : Table) (n : Text) → slice_get (users_before k t) (or_other (first_at n (names_in t)) (length t)) ≡ Some (k + number_of t n)
numbers_from k [] n = let z : k ≡ k + 0 = omega arith in ap Some z
numbers_from k (e ∷ t) n = by (bytes_eq n e.name) (bytes_eq e.name n) (either_way n e.name) (first_at n (names_in t)) (numbers_from (k + users_in e.entity) t n)
  where
    by : (r q : Bool) → r ≡ q → (o : Option ℕ) → slice_get (users_before (k + users_in e.entity) t) (or_other o (length t)) ≡ Some (k + users_in e.entity + number_of t n)
        → slice_get (users_before k (e ∷ t)) (or_other (cond r (Some 0) (option_map suc o)) (suc (length t))) ≡ Some (k + cond q 0 (users_in e.entity + number_of t n))
    by true true s o h = let z : k ≡ k + 0 = omega arith in ap Some z
    by true false s o h = cc
    by false true s o h = cc
    by false false s None h = h ∙ ap Some (let z : k + users_in e.entity + number_of t n ≡ k + (users_in e.entity + number_of t n) = omega arith in z)
    by false false s (Some i) h = h ∙ ap Some (let z : k + users_in e.entity + number_of t n ≡ k + (users_in e.entity + number_of t n) = omega arith in z)

pub numbers_there : (t : Table) (n : Text) → slice_get (users_before 0 t) (or_other (first_at n (names_in t)) (length t)) ≡ Some (number_of t n)
numbers_there t n = numbers_from 0 t n ∙ ap Some (let z : 0 + number_of t n ≡ number_of t n = omega arith in z)

pub number_is : (xs : List ℕ) (t : Table) (n : Text) (i k : ℕ) → xs ≡ users_before 0 t → i ≡ or_other (first_at n (names_in t)) (length t) → k ≡ or_other (slice_get xs i) 0 → k ≡ number_of t n
number_is xs t n i k e f g = g ∙ ((λ j. or_other (slice_get (e j) (f j)) 0) ∙ ap (λ o. or_other o 0) (numbers_there t n))

-- one synonym further
pub one_further : (t : Table) (total : Ty) (i : ℕ) (w next : Walk) (n : Bor (List ℕ)) → i < length t → walk_type (type_after t (length t - i)) w ≡ total → w.end ≡ Named n
    → ((m : ℕ) → walk_type (type_after t m) next ≡ nested w.maps (type_after t (suc m) n.now)) → walk_type (type_after t (length t - (i + 1))) next ≡ total
one_further t total i w next n below h e f =
    let z : suc (length t - (i + 1)) ≡ length t - i = omega (below, arith) in
    f (length t - (i + 1)) ∙ ap (λ m. nested w.maps (type_after t m n.now)) z ∙ ap (λ x. nested w.maps (end_type (type_after t (length t - i)) x)) (sym e) ∙ h

-- at a base
pub here_is : (f : Text → Ty) (w : Walk) (b : Base) (total : Ty) → w.end ≡ Here b → walk_type f w ≡ total → nested w.maps (base_type b) ≡ total
here_is f w b total e h = ap (λ x. nested w.maps (end_type f x)) (sym e) ∙ h

-- at a name behind the last synonym
pub named_last : (t : Table) (w : Walk) (n : Bor (List ℕ)) (m : ℕ) (total : Ty) → m ≡ 0 → w.end ≡ Named n → walk_type (type_after t m) w ≡ total → nested w.maps integers ≡ total
named_last t w n m total z e h = ap (λ k. nested w.maps (type_after t k n.now)) (sym z) ∙ ap (λ x. nested w.maps (end_type (type_after t m) x)) (sym e) ∙ h

-- ---- groups of variables

named_more : (t : Table) (ns : List Name) (s : Written) (ps : List (Name × Written)) → types_named t (typed_names ns s ++ ps) ≡ map (λ (n : Name). type_over t s) ns ++ types_named t ps
named_more t [] s ps = refl
named_more t (n ∷ ns) s ps = ap (λ w. type_over t s ∷ w) (named_more t ns s ps)

groups_next : (t : Table) (g : Group) (gs : List Group) → types_named t (names_of (groups_of (g ∷ gs))) ≡ map (λ (n : Name). type_over t g.of) g.names.items ++ types_named t (names_of (groups_of gs))
groups_next t g gs = named_more t g.names.items g.of (names_of (groups_of gs))

each_groups_next : (t : Table) (v : Vec Group Global) (vs : List (Vec Group Global))
    → types_named t (locals_of (each_groups_of (v ∷ vs))) ≡ types_named t (names_of (groups_of v.items)) ++ types_named t (locals_of (each_groups_of vs))
each_groups_next t v vs = map-append (λ (p : Name × Written). type_over t p.1) (names_of (groups_of v.items)) (locals_of (each_groups_of vs))

pub groups_pushed : (t : Table) (xs : List Group) (i : ℕ) (x : Group) (before after total : List Ty) → i < length xs → x ≡ get_or xs i x → after ≡ before ++ map (λ (n : Name). type_over t x.of) x.names.items
    → before ++ types_named t (names_of (groups_of (drop i xs))) ≡ total → after ++ types_named t (names_of (groups_of (drop (i + 1) xs))) ≡ total
groups_pushed t xs i x before after total h is step made =
    ap (λ w. w ++ types_named t (names_of (groups_of (drop (i + 1) xs)))) step
    ∙ append_assoc before (map (λ (n : Name). type_over t x.of) x.names.items) (types_named t (names_of (groups_of (drop (i + 1) xs))))
    ∙ ap (λ w. before ++ w) (sym (groups_next t x (drop (i + 1) xs)))
    ∙ ap (λ l. before ++ types_named t (names_of (groups_of l))) (sym (next_dropped xs i x h is)) ∙ made

pub each_pushed : (t : Table) (xs : List (Vec Group Global)) (i : ℕ) (x : Vec Group Global) (before after total : List Ty) → i < length xs → x ≡ get_or xs i x → after ≡ before ++ types_named t (names_of (groups_of x.items))
    → before ++ types_named t (locals_of (each_groups_of (drop i xs))) ≡ total → after ++ types_named t (locals_of (each_groups_of (drop (i + 1) xs))) ≡ total
each_pushed t xs i x before after total h is step made =
    ap (λ w. w ++ types_named t (locals_of (each_groups_of (drop (i + 1) xs)))) step
    ∙ append_assoc before (types_named t (names_of (groups_of x.items))) (types_named t (locals_of (each_groups_of (drop (i + 1) xs))))
    ∙ ap (λ w. before ++ w) (sym (each_groups_next t x (drop (i + 1) xs)))
    ∙ ap (λ l. before ++ types_named t (locals_of (each_groups_of l))) (sym (next_dropped xs i x h is)) ∙ made
