-- Entries of names in turn.
use Rattle.std.proofs.Common.{◌≡◌, refl, sym, ap, ◌∙◌, ℕ, ◌+◌, List, [], ◌∷◌, ◌++◌, length, arith}
use Rattle.std.proofs.lemmas.List.{append_assoc, length-append}
use Rattle.bpl_ast.specs.Place.{Name, Ty}
use Rattle.bpl_ast.specs.ExprView.{groups_of}
use Rattle.bpl_ast.specs.Statement.{Decl}
use Rattle.bpl_ast.specs.declared.expr.Group.{Group}
use Rattle.bpl_scopes.specs.Scopes.{Entity, a_constant, a_global, Table, Counts, counts_with, entries_of, entries_after, entries_from, typed_names, names_of}

-- entries of names in two lists
pub entries_append : (what : ℕ → Ty → Entity) (d k : ℕ) (ps qs : List (Name × Ty)) → entries_from what d k (ps ++ qs) ≡ entries_from what d k ps ++ entries_from what d (k + length ps) qs
entries_append what d k [] qs = ap (λ n. entries_from what d n qs) (omega arith)
entries_append what d k (p ∷ ps) qs = ap (λ es. record { name = (p.0).text; decl = d; entity = what k p.1 } ∷ es) (entries_append what d (k + 1) ps qs ∙ ap (λ n. entries_from what d (k + 1) ps ++ entries_from what d n qs) (omega arith))

pub typed_length : (ns : List Name) (t : Ty) → length (typed_names ns t) ≡ length ns
typed_length [] t = refl
typed_length (n ∷ ns) t = omega (arith, typed_length ns t)

pub constants_next : (t : Table) (d k : ℕ) (n : Name) (ns : List Name) (s : Ty) → t ++ entries_from a_constant d k (typed_names (n ∷ ns) s) ≡ (t ++ record { name = n.text; decl = d; entity = a_constant k s } ∷ []) ++ entries_from a_constant d (k + 1) (typed_names ns s)
constants_next t d k n ns s = sym (append_assoc t (record { name = n.text; decl = d; entity = a_constant k s } ∷ []) (entries_from a_constant d (k + 1) (typed_names ns s)))

pub globals_next : (t : Table) (d k : ℕ) (n : Name) (ns : List Name) (s : Ty) → t ++ entries_from a_global d k (typed_names (n ∷ ns) s) ≡ (t ++ record { name = n.text; decl = d; entity = a_global k s } ∷ []) ++ entries_from a_global d (k + 1) (typed_names ns s)
globals_next t d k n ns s = sym (append_assoc t (record { name = n.text; decl = d; entity = a_global k s } ∷ []) (entries_from a_global d (k + 1) (typed_names ns s)))

pub groups_next : (t : Table) (d k : ℕ) (g : Group) (gs : List Group) → t ++ entries_from a_global d k (names_of (groups_of (g ∷ gs))) ≡ (t ++ entries_from a_global d k (typed_names g.names.items g.of)) ++ entries_from a_global d (k + length g.names.items) (names_of (groups_of gs))
groups_next t d k g gs = ap (λ es. t ++ es) (entries_append a_global d k (typed_names g.names.items g.of) (names_of (groups_of gs)))
    ∙ sym (append_assoc t (entries_from a_global d k (typed_names g.names.items g.of)) (entries_from a_global d (k + length (typed_names g.names.items g.of)) (names_of (groups_of gs))))
    ∙ ap (λ n. (t ++ entries_from a_global d k (typed_names g.names.items g.of)) ++ entries_from a_global d (k + n) (names_of (groups_of gs))) (typed_length g.names.items g.of)

pub names_next : (g : Group) (gs : List Group) → length (names_of (groups_of (g ∷ gs))) ≡ length g.names.items + length (names_of (groups_of gs))
names_next g gs = length-append (typed_names g.names.items g.of) (names_of (groups_of gs)) ∙ ap (λ n. n + length (names_of (groups_of gs))) (typed_length g.names.items g.of)

pub decls_next : (t : Table) (c : Counts) (d : ℕ) (x : Decl) (xs : List Decl) → t ++ entries_after c d (x ∷ xs) ≡ (t ++ entries_of c d x.body) ++ entries_after (counts_with c x.body) (d + 1) xs
decls_next t c d x xs = sym (append_assoc t (entries_of c d x.body) (entries_after (counts_with c x.body) (d + 1) xs))
