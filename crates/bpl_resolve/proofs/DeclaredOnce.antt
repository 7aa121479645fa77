-- In a program without faults the name of each procedure stands for it: no earlier declaration has that name.
use Rattle.std.proofs.Common.{◌≡◌, refl, ap, sym, ◌∙◌, subst, ℕ, ◌+◌, true, false, ◌||◌, List, [], ◌∷◌, ◌++◌, append_assoc, Some, option_map}
use Rattle.std.specs.Prelude.{⊤, bytes_eq, cond}
use Rattle.std.specs.List.{AllByRecursion}
use Rattle.logic_core.proofs.Booleans.{neither as either_false}
use Rattle.bpl_ast.specs.Place.{Name, Ty}
use Rattle.bpl_ast.specs.Statement.{DeclBody, constant, function, axiom_of, variables, synonym, procedure, implementation, Decl}
use Rattle.bpl_scopes.specs.declared.fault.TypeKind.TheVariants.{Twice as twice}
use Rattle.bv_base.specs.Text.{is_among}
use Rattle.bpl_scopes.specs.Fault.{again}
use Rattle.bpl_scopes.specs.Scopes.{Text, contract_with, Entity, a_constant, a_global, a_procedure, Entry, Table, Counts, counts_with, declared_names, typed_names, names_of, only_names, texts_of, entries_from, entries_of, entries_after, entry_of, entity_of}
use Rattle.bpl_declaration_faults.specs.DeclFaults.{decl_faults, Before, before_with}
use Rattle.bpl_resolve.proofs.HasSort.{first_empty}
use Rattle.bpl_resolve.proofs.GoesForward.{not_equal, if_so_empty}
use Rattle.bpl_resolve.proofs.Ways.{text_itself}
use Rattle.bpl_resolve.proofs.EntriesFine.{NoFaults}

abbrev pub HasNone : Text → Table → Type 0
HasNone m es = AllByRecursion (λ (e : Entry). bytes_eq e.name m ≡ false) es

none_joined : (m : Text) (es fs : Table) → HasNone m es → HasNone m fs → HasNone m (es ++ fs)
none_joined m [] fs h g = g
none_joined m (e ∷ es) fs h g = (h.0, none_joined m es fs h.1 g)

skip : (m : Text) (es fs : Table) → HasNone m es → entity_of (es ++ fs) m ≡ entity_of fs m
unfolding entity_of
skip m [] fs h = refl
skip m (e ∷ es) fs h = ap (λ w. option_map (λ (x : Entry). x.entity) (cond w (Some e) (entry_of (es ++ fs) m))) h.0 ∙ skip m es fs h.1

first_is : (e : Entry) (es : Table) (m : Text) → bytes_eq e.name m ≡ true → entity_of (e ∷ es) m ≡ Some e.entity
unfolding entity_of
first_is e es m h = ap (λ w. option_map (λ (x : Entry). x.entity) (cond w (Some e) (entry_of es m))) h

not_there : (what : ℕ → Ty → Entity) (d k : ℕ) (ps : List (Name × Ty)) (m : Text) → is_among (texts_of (only_names ps)) m ≡ false → HasNone m (entries_from what d k ps)
not_there what d k [] m h = tt
not_there what d k (p ∷ ps) m h = let r = either_false (bytes_eq m (p.0).text) _ h in (not_equal (p.0).text m r.0, not_there what d (k + 1) ps m r.1)

names_again : (ns : List Name) (s : Ty) → only_names (typed_names ns s) ≡ ns
names_again [] s = refl
names_again (n ∷ ns) s = ap (λ w. n ∷ w) (names_again ns s)

one_not : (n : Name) (m : Text) → is_among (texts_of (n ∷ [])) m ≡ false → bytes_eq n.text m ≡ false
one_not n m h = not_equal n.text m (either_false (bytes_eq m n.text) false h).0

decl_none : (k : Counts) (d : ℕ) (x : DeclBody) (m : Text) → is_among (texts_of (declared_names x)) m ≡ false → HasNone m (entries_of k d x)
decl_none k d (constant u ns s) m h = not_there a_constant d k.constants (typed_names ns s) m (subst (λ w. is_among (texts_of w) m ≡ false) (sym (names_again ns s)) h)
decl_none k d (function n ps ins r x) m h = (one_not n m h, tt)
decl_none k d (axiom_of x) m h = tt
decl_none k d (variables gs) m h = not_there a_global d k.globals (names_of gs) m h
decl_none k d (synonym n s) m h = (one_not n m h, tt)
decl_none k d (procedure n ps g ss b) m h = (one_not n m h, tt)
decl_none k d (implementation n ps g b) m h = tt

among_parts : (ms ns : List Text) (m : Text) → is_among (ms ++ ns) m ≡ false → (is_among ms m ≡ false) × (is_among ns m ≡ false)
among_parts [] ns m h = (refl, h)
among_parts (n ∷ ms) ns m h = let r = either_false (bytes_eq m n) _ h in let q = among_parts ms ns m r.1 in ((λ i. r.0 i || q.0 i), q.1)

-- names that did not stand before are in no entry so far
abbrev New : Table → Before → Type 0
New es b = (m : Text) → is_among b.names m ≡ false → HasNone m es

-- the declaration that a procedure's name stands for
abbrev pub StandsForIt : Table → DeclBody → Type 0
StandsForIt t (procedure n ps g ss b) = (k : ℕ) × (entity_of t n.text ≡ Some (a_procedure k (contract_with g ss)))
StandsForIt t d = ⊤

module _ (t : Table) (c : Counts) where
  here_is : (es : Table) (b : Before) (k : Counts) (d : ℕ) (x : DeclBody) (more : Table) → New es b → decl_faults t c b x ≡ [] → StandsForIt (es ++ (entries_of k d x ++ more)) x
  here_is es b k d (procedure n ps g ss y) more h e =
      let a : is_among b.names n.text ≡ false = if_so_empty _ twice n.at (first_empty _ [] (first_empty (again twice b.names (n ∷ [])) _ e)) in
      (k.procedures, skip n.text es _ (h n.text a) ∙ first_is _ more n.text (text_itself n.text))
  here_is es b k d (constant u ns s) more h e = tt
  here_is es b k d (function n ps ins r x) more h e = tt
  here_is es b k d (axiom_of x) more h e = tt
  here_is es b k d (variables gs) more h e = tt
  here_is es b k d (synonym n s) more h e = tt
  here_is es b k d (implementation n ps g y) more h e = tt

  pub each_stands : (es : Table) (b : Before) (k : Counts) (d : ℕ) (xs : List Decl) → New es b → NoFaults t c b xs → AllByRecursion (λ (x : Decl). StandsForIt (es ++ entries_after k d xs) x.body) xs
  each_stands es b k d [] h e = tt
  each_stands es b k d (x ∷ xs) h e = (
    here_is es b k d x.body (entries_after (counts_with k x.body) (d + 1) xs) h e.0,
    subst (λ w. AllByRecursion (λ (y : Decl). StandsForIt w y.body) xs) (append_assoc es (entries_of k d x.body) (entries_after (counts_with k x.body) (d + 1) xs))
        (each_stands (es ++ entries_of k d x.body) (before_with b x.body) (counts_with k x.body) (d + 1) xs
        (λ m q. let r = among_parts (texts_of (declared_names x.body)) b.names m q in none_joined m es _ (h m r.1) (decl_none k d x.body m r.0)) e.1),
  )
