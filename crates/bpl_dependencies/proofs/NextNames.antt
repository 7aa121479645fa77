-- Names in turn, and those of them that are of a kind.
use Rattle.std.proofs.Common.{◌≡◌, refl, sym, ap, ◌∙◌, ℕ, Bool, true, false, true≢false, cond, List, [], ◌∷◌, ◌++◌, map, filter, Option, None}
use Rattle.std.proofs.lemmas.List.{append_assoc, append-nil}
use Rattle.bpl_ast.specs.Place.{Name, Ty}
use Rattle.bpl_ast.specs.ExprView.{groups_of}
use Rattle.bpl_ast.specs.declared.expr.Group.{Group}
use Rattle.bpl_scopes.specs.Positions.{first_at}
use Rattle.bpl_scopes.specs.Scopes.{Text, Table, entity_of, typed_names, names_of, only_names, texts_of}
use Rattle.bpl_scopes.specs.KnownSorts.{names_in}
use Rattle.bpl_scopes.specs.Functions.{is_function, is_synonym}
use Rattle.bpl_scopes.proofs.FirstAt.{entity_at, entity_first}
use Rattle.bpl_dependencies.specs.Reach.{first_position, functions_among, synonyms_among, function_alone, synonym_alone}

texts_typed : (ns : List Name) (t : Ty) (ps : List (Name × Ty)) → texts_of (only_names (typed_names ns t ++ ps)) ≡ texts_of ns ++ texts_of (only_names ps)
texts_typed [] t ps = refl
texts_typed (n ∷ ns) t ps = ap (λ l. n.text ∷ l) (texts_typed ns t ps)

pub texts_next : (before : List Text) (g : Group) (gs : List Group) → before ++ texts_of (only_names (names_of (groups_of (g ∷ gs)))) ≡ (before ++ texts_of g.names.items) ++ texts_of (only_names (names_of (groups_of gs)))
texts_next before g gs = ap (λ l. before ++ l) (texts_typed g.names.items g.of (names_of (groups_of gs))) ∙ sym (append_assoc before (texts_of g.names.items) (texts_of (only_names (names_of (groups_of gs)))))

pub filtered_next : (f : Text → Bool) (g : Text → Option ℕ) (n : Text) (ns : List Text) → map g (filter f (n ∷ ns)) ≡ map g (filter f (n ∷ [])) ++ map g (filter f ns)
filtered_next f g n ns = by (f n)
  where
    by : (b : Bool) → map g (cond b (n ∷ filter f ns) (filter f ns)) ≡ map g (cond b (n ∷ []) []) ++ map g (filter f ns)
    by true = refl
    by false = refl

-- what is declared stands somewhere
pub function_stands : (t : Table) (n : Text) → is_function (entity_of t n) ≡ true → first_at n (names_in t) ≡ None → ⊥
function_stands t n h e = true≢false (sym h ∙ ap is_function (entity_first t n ∙ ap (entity_at t) e))

pub synonym_stands : (t : Table) (n : Text) → is_synonym (entity_of t n) ≡ true → first_at n (names_in t) ≡ None → ⊥
synonym_stands t n h e = true≢false (sym h ∙ ap is_synonym (entity_first t n ∙ ap (entity_at t) e))

-- one name, where it is of the kind, and where it isn't
pub kept_one : (f : Text → Bool) (g : Text → Option ℕ) (n : Text) → f n ≡ true → map g (filter f (n ∷ [])) ≡ g n ∷ []
kept_one f g n h = ap (λ b. map g (cond b (n ∷ []) [])) h

pub kept_none : (f : Text → Bool) (g : Text → Option ℕ) (n : Text) → f n ≡ false → map g (filter f (n ∷ [])) ≡ []
kept_none f g n h = ap (λ b. map g (cond b (n ∷ []) [])) h

pub functions_end : (t : Table) (before : List (Option ℕ)) → before ≡ before ++ functions_among t []
unfolding functions_among
functions_end t before = sym (append-nil before)

pub functions_next : (t : Table) (before : List (Option ℕ)) (n : Text) (ns : List Text) → before ++ functions_among t (n ∷ ns) ≡ (before ++ function_alone t n) ++ functions_among t ns
unfolding function_alone functions_among
functions_next t before n ns = ap (λ l. before ++ l) (filtered_next (λ m. is_function (entity_of t m)) (first_position t) n ns)
    ∙ sym (append_assoc before (map (first_position t) (filter (λ m. is_function (entity_of t m)) (n ∷ []))) (map (first_position t) (filter (λ m. is_function (entity_of t m)) ns)))

pub synonyms_end : (t : Table) (before : List (Option ℕ)) → before ≡ before ++ synonyms_among t []
unfolding synonyms_among
synonyms_end t before = sym (append-nil before)

pub synonyms_next : (t : Table) (before : List (Option ℕ)) (n : Text) (ns : List Text) → before ++ synonyms_among t (n ∷ ns) ≡ (before ++ synonym_alone t n) ++ synonyms_among t ns
unfolding synonym_alone synonyms_among
synonyms_next t before n ns = ap (λ l. before ++ l) (filtered_next (λ m. is_synonym (entity_of t m)) (first_position t) n ns)
    ∙ sym (append_assoc before (map (first_position t) (filter (λ m. is_synonym (entity_of t m)) (n ∷ []))) (map (first_position t) (filter (λ m. is_synonym (entity_of t m)) ns)))
