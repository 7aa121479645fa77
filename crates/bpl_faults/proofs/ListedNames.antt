-- Names of groups in turn, names that stand before, and the variables that groups bind.
use Rattle.std.proofs.Common.{◌≡◌, refl, sym, ap, ◌∙◌, Bool, ◌||◌, true, false, List, [], ◌∷◌, ◌++◌, reverse, map, ℕ, suc, ◌+◌, ◌<◌, length, drop, get_or, drop-cons, arith, Option, Some, bytes_eq}
use Rattle.std.specs.List.{list_any}
use Rattle.std.proofs.lemmas.List.{append_assoc, reverse-append, map_push}
use Rattle.std.proofs.lemmas.List.Folds.{list_any-append}
use Rattle.logic_terms.specs.Tree.{Kind}
use Rattle.bpl_ast.specs.Place.{Name, Ty}
use Rattle.bpl_ast.specs.ExprView.{groups_of}
use Rattle.bpl_ast.specs.declared.expr.Group.{Group}
use Rattle.bpl_scopes.specs.declared.fault.TypeKind.{TypeKind}
use Rattle.bpl_scopes.specs.declared.fault.Fault.{Fault}
use Rattle.bv_base.specs.Text.{is_among}
use Rattle.bpl_scopes.specs.Fault.{again, if_so, earlier, first_fault}
use Rattle.bpl_scopes.specs.Scopes.{Text, Table, BoundVar, typed_names, names_of, only_names}
use Rattle.bpl_scopes.specs.Sorts.{sort_of_type}
use Rattle.bpl_scopes.proofs.FirstFault.{joins}

only_typed : (ns : List Name) (t : Ty) (ps : List (Name × Ty)) → only_names (typed_names ns t ++ ps) ≡ ns ++ only_names ps
only_typed [] t ps = refl
only_typed (n ∷ ns) t ps = ap (λ l. n ∷ l) (only_typed ns t ps)

pub names_next : (before : List Name) (g : Group) (gs : List Group) → before ++ only_names (names_of (groups_of (g ∷ gs))) ≡ (before ++ g.names.items) ++ only_names (names_of (groups_of gs))
names_next before g gs = ap (λ l. before ++ l) (only_typed g.names.items g.of (names_of (groups_of gs))) ∙ sym (append_assoc before g.names.items (only_names (names_of (groups_of gs))))

turned : (b c : Bool) → (b || (c || false)) ≡ (c || b)
turned true true = refl
turned true false = refl
turned false true = refl
turned false false = refl

pub among_reversed : (ns : List Text) (n : Text) → is_among (reverse ns) n ≡ is_among ns n
among_reversed [] n = refl
among_reversed (m ∷ ms) n = ap (list_any (bytes_eq n)) (reverse-append (m ∷ []) ms) ∙ list_any-append (bytes_eq n) (reverse ms) (m ∷ []) ∙ ap (λ b. b || (bytes_eq n m || false)) (among_reversed ms n) ∙ turned (is_among ms n) (bytes_eq n m)

-- names before are kept in the order of the list
pub again_next : (found : Option Fault) (k : TypeKind) (seen : List Text) (n : Name) (ns : List Name)
    → earlier found (first_fault (again k (reverse seen) (n ∷ ns))) ≡ earlier (earlier found (first_fault (if_so (is_among seen n.text) k n.at))) (first_fault (again k (reverse (seen ++ n.text ∷ [])) ns))
again_next found k seen n ns = joins found (if_so (is_among (reverse seen) n.text) k n.at) (again k (n.text ∷ reverse seen) ns)
    ∙ ap (λ b. earlier (earlier found (first_fault (if_so b k n.at))) (first_fault (again k (n.text ∷ reverse seen) ns))) (among_reversed seen n.text)
    ∙ ap (λ l. earlier (earlier found (first_fault (if_so (is_among seen n.text) k n.at))) (first_fault (again k l ns))) (sym (reverse-append seen (n.text ∷ [])))

abbrev pub bound_for : Table → List Text → Name × Ty → BoundVar
bound_for t h p = record { name = Some ((p.0).text); sort = sort_of_type t h p.1 }

bound_typed : (t : Table) (h : List Text) (ns : List Name) (s : Ty) (ps : List (Name × Ty)) → map (bound_for t h) (typed_names ns s ++ ps) ≡ map (λ (n : Name). record { name = Some n.text; sort = sort_of_type t h s }) ns ++ map (bound_for t h) ps
bound_typed t h [] s ps = refl
bound_typed t h (n ∷ ns) s ps = ap (λ l. record { name = Some n.text; sort = sort_of_type t h s } ∷ l) (bound_typed t h ns s ps)

pub bounds_next : (t : Table) (h : List Text) (before after : List BoundVar) (k : Option Kind) (g : Group) (gs : List Group) → k ≡ sort_of_type t h g.of
    → after ≡ before ++ map (λ (n : Name). record { name = Some n.text; sort = k }) g.names.items
    → after ++ map (bound_for t h) (names_of (groups_of gs)) ≡ before ++ map (bound_for t h) (names_of (groups_of (g ∷ gs)))
bounds_next t h before after k g gs e put = ap (λ l. l ++ map (bound_for t h) (names_of (groups_of gs))) put
    ∙ append_assoc before (map (λ (n : Name). record { name = Some n.text; sort = k }) g.names.items) (map (bound_for t h) (names_of (groups_of gs)))
    ∙ ap (λ j. before ++ (map (λ (n : Name). record { name = Some n.text; sort = j }) g.names.items ++ map (bound_for t h) (names_of (groups_of gs)))) e
    ∙ sym (ap (λ l. before ++ l) (bound_typed t h g.names.items g.of (names_of (groups_of gs))))

pub map_reversed : {A B : Type 0} (f : A → B) (xs : List A) → map f (reverse xs) ≡ reverse (map f xs)
map_reversed f [] = refl
map_reversed f (x ∷ xs) = ap (map f) (reverse-append (x ∷ []) xs) ∙ map_push f (reverse xs) x ∙ ap (λ l. l ++ f x ∷ []) (map_reversed f xs) ∙ sym (reverse-append (f x ∷ []) (map f xs))

-- what is left begins with the item at the position
pub next_dropped : {A : Type 0} (xs : List A) (i : ℕ) (x : A) → i < length xs → x ≡ get_or xs i x → drop i xs ≡ x ∷ drop (i + 1) xs
next_dropped xs i x h is =
    let next : suc i ≡ i + 1 = omega arith in
    drop-cons xs i x h ∙ (λ j. sym is j ∷ drop (next j) xs)
