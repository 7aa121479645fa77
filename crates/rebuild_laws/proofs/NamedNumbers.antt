-- The number of each constant and global variable is the place of its name among those of all declarations.
use Rattle.std.specs.Prelude.{◌≡◌, ℕ, zero, suc, ◌+◌, ◌<◌, List, [], ◌∷◌, ◌++◌, map, length, flat_map, slice_get, Option, Some, None, ⊤}
use Rattle.std.specs.List.{AllByRecursion}
use Rattle.std.proofs.Common.{refl, ap, sym, ◌∙◌, subst, arith, append_assoc, append-nil, length-append}
use Rattle.bpl_ast.specs.Place.{Name, Ty}
use Rattle.bpl_ast.specs.Statement.{DeclBody, constant, function, axiom_of, variables, synonym, procedure, implementation, Decl}
use Rattle.bpl_scopes.specs.Scopes.{Text, Entity, a_constant, a_global, a_function, a_synonym, a_procedure, Entry, Table, table_of, Counts, no_counts, counts_with, counts_after, typed_names, names_of, only_names, texts_of, entries_from, entries_of, entries_after, entity_of}
use Rattle.bpl_resolve.proofs.Numbered.{slice_at}
use Rattle.bpl_resolve.proofs.EntriesFine.{entity_has}

abbrev pub constants_in : DeclBody → List Text
constants_in (constant u ns s) = texts_of ns
constants_in (function n ps ins r x) = []
constants_in (axiom_of x) = []
constants_in (variables gs) = []
constants_in (synonym n s) = []
constants_in (procedure n ps g ss b) = []
constants_in (implementation n ps g b) = []

abbrev pub globals_in : DeclBody → List Text
globals_in (constant u ns s) = []
globals_in (function n ps ins r x) = []
globals_in (axiom_of x) = []
globals_in (variables gs) = texts_of (only_names (names_of gs))
globals_in (synonym n s) = []
globals_in (procedure n ps g ss b) = []
globals_in (implementation n ps g b) = []

abbrev pub constant_names : List Decl → List Text
constant_names xs = flat_map (λ (x : Decl). constants_in x.body) xs

abbrev pub global_names : List Decl → List Text
global_names xs = flat_map (λ (x : Decl). globals_in x.body) xs

abbrev pub IsNamed : List Text → List Text → Text → Entity → Type 0
IsNamed cs gs n (a_constant k s) = slice_get cs k ≡ Some n
IsNamed cs gs n (a_global k s) = slice_get gs k ≡ Some n
IsNamed cs gs n (a_function h) = ⊤
IsNamed cs gs n (a_synonym s) = ⊤
IsNamed cs gs n (a_procedure k d) = ⊤

abbrev AreNamed : List Text → List Text → Table → Type 0
AreNamed cs gs es = AllByRecursion (λ (e : Entry). IsNamed cs gs e.name e.entity) es

constants_named : (cs more gs : List Text) (d k : ℕ) (ns : List Name) (s : Ty) → length cs ≡ k → AreNamed (cs ++ (texts_of ns ++ more)) gs (entries_from a_constant d k (typed_names ns s))
constants_named cs more gs d k [] s e = tt
constants_named cs more gs d k (n ∷ ns) s e = (
  slice_at cs n.text _ k e,
  subst (λ w. AreNamed w gs (entries_from a_constant d (k + 1) (typed_names ns s))) (append_assoc cs (n.text ∷ []) (texts_of ns ++ more))
      (constants_named (cs ++ (n.text ∷ [])) more gs d (k + 1) ns s (length-append cs (n.text ∷ []) ∙ ap (λ w. w + 1) e)),
)

globals_named : (cs gs more : List Text) (d k : ℕ) (ps : List (Name × Ty)) → length gs ≡ k → AreNamed cs (gs ++ (texts_of (only_names ps) ++ more)) (entries_from a_global d k ps)
globals_named cs gs more d k [] e = tt
globals_named cs gs more d k (p ∷ ps) e = (
  slice_at gs (p.0).text _ k e,
  subst (λ w. AreNamed cs w (entries_from a_global d (k + 1) ps)) (append_assoc gs ((p.0).text ∷ []) (texts_of (only_names ps) ++ more))
      (globals_named cs (gs ++ ((p.0).text ∷ [])) more d (k + 1) ps (length-append gs ((p.0).text ∷ []) ∙ ap (λ w. w + 1) e)),
)

decl_named : (cs gs mc mg : List Text) (k : Counts) (d : ℕ) (x : DeclBody) → length cs ≡ k.constants → length gs ≡ k.globals → AreNamed (cs ++ (constants_in x ++ mc)) (gs ++ (globals_in x ++ mg)) (entries_of k d x)
decl_named cs gs mc mg k d (constant u ns s) e f = constants_named cs mc (gs ++ mg) d k.constants ns s e
decl_named cs gs mc mg k d (function n q ins r x) e f = (tt, tt)
decl_named cs gs mc mg k d (axiom_of x) e f = tt
decl_named cs gs mc mg k d (variables vs) e f = globals_named (cs ++ mc) gs mg d k.globals (names_of vs) f
decl_named cs gs mc mg k d (synonym n s) e f = (tt, tt)
decl_named cs gs mc mg k d (procedure n q g ss b) e f = (tt, tt)
decl_named cs gs mc mg k d (implementation n q g b) e f = tt

named_joined : (cs gs : List Text) (es fs : Table) → AreNamed cs gs es → AreNamed cs gs fs → AreNamed cs gs (es ++ fs)
named_joined cs gs [] fs h g = g
named_joined cs gs (e ∷ es) fs h g = (h.0, named_joined cs gs es fs h.1 g)

map_length : {A B : Type 0} (f : A → B) (xs : List A) → length (map f xs) ≡ length xs
map_length f [] = refl
map_length f (x ∷ xs) = ap suc (map_length f xs)

pub constant_count : (k : Counts) (x : DeclBody) → k.constants + length (constants_in x) ≡ (counts_with k x).constants
constant_count k (constant u ns s) = ap (λ w. k.constants + w) (map_length (λ (n : Name). n.text) ns)
constant_count k (function n q ins r x) = omega arith
constant_count k (axiom_of x) = omega arith
constant_count k (variables vs) = omega arith
constant_count k (synonym n s) = omega arith
constant_count k (procedure n q g ss b) = omega arith
constant_count k (implementation n q g b) = omega arith

pub global_count : (k : Counts) (x : DeclBody) → k.globals + length (globals_in x) ≡ (counts_with k x).globals
global_count k (constant u ns s) = omega arith
global_count k (function n q ins r x) = omega arith
global_count k (axiom_of x) = omega arith
global_count k (variables vs) = ap (λ w. k.globals + w) (map_length (λ (n : Name). n.text) (only_names (names_of vs)) ∙ map_length (λ (p : Name × Ty). p.0) (names_of vs))
global_count k (synonym n s) = omega arith
global_count k (procedure n q g ss b) = omega arith
global_count k (implementation n q g b) = omega arith

one_longer : (xs ys : List Text) (a b : ℕ) → length xs ≡ a → a + length ys ≡ b → length (xs ++ ys) ≡ b
one_longer xs ys a b e f = length-append xs ys ∙ (ap (λ w. w + length ys) e ∙ f)

named : (cs gs : List Text) (k : Counts) (d : ℕ) (xs : List Decl) → length cs ≡ k.constants → length gs ≡ k.globals → AreNamed (cs ++ constant_names xs) (gs ++ global_names xs) (entries_after k d xs)
named cs gs k d [] e f = tt
named cs gs k d (x ∷ xs) e f =
    named_joined _ _ (entries_of k d x.body) (entries_after (counts_with k x.body) (d + 1) xs)
    (decl_named cs gs (constant_names xs) (global_names xs) k d x.body e f)
    (subst (λ w. AreNamed w (gs ++ (globals_in x.body ++ global_names xs)) (entries_after (counts_with k x.body) (d + 1) xs)) (append_assoc cs (constants_in x.body) (constant_names xs))
    (subst (λ w. AreNamed ((cs ++ constants_in x.body) ++ constant_names xs) w (entries_after (counts_with k x.body) (d + 1) xs)) (append_assoc gs (globals_in x.body) (global_names xs))
    (named (cs ++ constants_in x.body) (gs ++ globals_in x.body) (counts_with k x.body) (d + 1) xs (one_longer cs _ _ _ e (constant_count k x.body)) (one_longer gs _ _ _ f (global_count k x.body)))))

count_constants : (cs : List Text) (k : Counts) (xs : List Decl) → length cs ≡ k.constants → length (cs ++ constant_names xs) ≡ (counts_after k xs).constants
count_constants cs k [] e = ap length (append-nil cs) ∙ e
count_constants cs k (x ∷ xs) e = ap length (sym (append_assoc cs (constants_in x.body) (constant_names xs))) ∙ count_constants (cs ++ constants_in x.body) (counts_with k x.body) xs (one_longer cs _ _ _ e (constant_count k x.body))

count_globals : (gs : List Text) (k : Counts) (xs : List Decl) → length gs ≡ k.globals → length (gs ++ global_names xs) ≡ (counts_after k xs).globals
count_globals gs k [] e = ap length (append-nil gs) ∙ e
count_globals gs k (x ∷ xs) e = ap length (sym (append_assoc gs (globals_in x.body) (global_names xs))) ∙ count_globals (gs ++ globals_in x.body) (counts_with k x.body) xs (one_longer gs _ _ _ e (global_count k x.body))

-- a place in a list lies before its end
pub place_below : {A : Type 0} (xs : List A) (k : ℕ) (a : A) → slice_get xs k ≡ Some a → k < length xs
place_below [] k a e = absurd (cc)
place_below (x ∷ xs) zero a e = omega arith
place_below (x ∷ xs) (suc k) a e = let r = place_below xs k a e in omega (arith, r)

module _ (ds : List Decl) where
  -- the name of a constant or global stands at its number
  pub is_named : (n : Text) (x : Entity) → entity_of (table_of ds) n ≡ Some x → IsNamed (constant_names ds) (global_names ds) n x
  is_named n x h = entity_has (IsNamed (constant_names ds) (global_names ds)) (table_of ds) (named [] [] no_counts 0 ds refl refl) n x h

  pub constants_counted : length (constant_names ds) ≡ (counts_after no_counts ds).constants
  constants_counted = count_constants [] no_counts ds refl

  pub globals_counted : length (global_names ds) ≡ (counts_after no_counts ds).globals
  globals_counted = count_globals [] no_counts ds refl
