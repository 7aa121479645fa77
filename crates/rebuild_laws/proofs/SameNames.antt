-- A name that is met is the same in both programs over new numbers, by which constants, global variables and functions get the numbers that their names have in the other program.
use Rattle.std.specs.Prelude.{◌≡◌, ℕ, zero, suc, ◌+◌, ◌-◌, ◌<◌, ◌≤◌, nat_lt, Bool, true, false, IsTrue, ◌||◌, ◌&&◌, ◌==◌, cond, List, [], ◌∷◌, map, length, slice_get, bytes_eq, Option, Some, None}
use Rattle.std.proofs.Common.{refl, ap, sym, ◌∙◌, subst, arith, inl, inr, ◌⊎◌}
use Rattle.std.proofs.lemmas.Bool.{lt-ltb, le-ltb}
use Rattle.logic_core.proofs.Booleans.{or_second}
use Rattle.bpl_ast.specs.Place.{Ty}
use Rattle.bpl_ast.specs.Statement.{Decl}
use Rattle.bpl_model.specs.Module.{Proc}
use Rattle.bpl_model.specs.Reach.{among, own_positions, reached_by}
use Rattle.bpl_scopes.specs.Scopes.{Text, Heading, Entity, a_constant, a_global, a_function, a_synonym, a_procedure, Entry, Table, table_of, Counts, no_counts, counts_after, entry_of, entity_of}
use Rattle.bpl_scopes.specs.Functions.{is_function, in_number_order, position_of, function_number}
use Rattle.bpl_terms.specs.Terms.{global_number, entry_number}
use Rattle.bpl_declaration_faults.specs.DeclFaults.{fault_of}
use Rattle.bpl_resolve.specs.Elaborate.{module_of}
use Rattle.bpl_resolve.proofs.Ways.{Member, same_text, text_itself}
use Rattle.bpl_resolve.proofs.FunctionOrder.{order_has}
use Rattle.bpl_resolve.proofs.EntriesFine.{synonyms_fine}
use Rattle.bpl_resolve.proofs.ModuleSorts.{fine, acyclic}
use Rattle.rebuild_laws.specs.Twins.{Own, Reached, Twins}
use Rattle.rebuild_laws.proofs.NamesInUse.{Met, declared}
use Rattle.rebuild_laws.proofs.Settled.{itself}
use Rattle.rebuild_laws.proofs.UsedNames.{met_reached, bare_meaning, same_entity, entity_entry}
use Rattle.rebuild_laws.proofs.SameSorts.{same_sort}
use Rattle.rebuild_laws.proofs.NamedNumbers.{constant_names, global_names, IsNamed, place_below, is_named, constants_counted, globals_counted}
use Rattle.rebuild_laws.proofs.ScopesAlike.{AlikeEntity, undeclared, constants, globals, functions, synonyms, procedures, AlikeName}

-- a choice by the kind of a number: of a constant, a global or an entry value, where there are c constants and g globals
abbrev pub by_kind : {A : Type 0} → ℕ → ℕ → (ℕ → A) → (ℕ → A) → (ℕ → A) → ℕ → A
by_kind c g f h i v = cond (nat_lt v c) (f v) (cond (nat_lt v (c + g)) (h (v - c)) (i (v - (c + g))))

module _ {A : Type 0} (c g : ℕ) (f h i : ℕ → A) where
  pub kind_constant : (k : ℕ) → k < c → by_kind c g f h i k ≡ f k
  kind_constant k l = ap (λ b. cond b (f k) (cond (nat_lt k (c + g)) (h (k - c)) (i (k - (c + g))))) (lt-ltb k c l)

  pub kind_global : (k : ℕ) → k < g → by_kind c g f h i (c + k) ≡ h k
  kind_global k l =
      let a : nat_lt (c + k) c ≡ false = le-ltb (c + k) c (omega arith) in
      let b : nat_lt (c + k) (c + g) ≡ true = lt-ltb (c + k) (c + g) (omega (arith, l)) in
      let e : (c + k) - c ≡ k = omega arith in
      (λ j. cond (a j) (f (c + k)) (cond (b j) (h ((c + k) - c)) (i ((c + k) - (c + g))))) ∙ ap h e

  pub kind_entry : (k : ℕ) → by_kind c g f h i (c + (g + k)) ≡ i k
  kind_entry k =
      let a : nat_lt (c + (g + k)) c ≡ false = le-ltb (c + (g + k)) c (omega arith) in
      let b : nat_lt (c + (g + k)) (c + g) ≡ false = le-ltb (c + (g + k)) (c + g) (omega arith) in
      let e : (c + (g + k)) - (c + g) ≡ k = omega arith in
      (λ j. cond (a j) (f (c + (g + k))) (cond (b j) (h ((c + (g + k)) - c)) (i ((c + (g + k)) - (c + g))))) ∙ ap i e

-- what holds of the name at a number
abbrev pub of_name : {A : Type 0} → A → (Text → A) → Option Text → A
of_name a f None = a
of_name a f (Some n) = f n

abbrev pub number_in : Option Entity → ℕ
number_in (Some (a_constant k s)) = k
number_in (Some (a_global k s)) = k
number_in (Some (a_function h)) = 0
number_in (Some (a_synonym s)) = 0
number_in (Some (a_procedure k d)) = 0
number_in None = 0

abbrev pub is_reached : List Decl → Proc → ℕ → Bool
is_reached ds p d = among (own_positions (module_of ds) p) d || among (reached_by (module_of ds) p) d

abbrev pub entry_met : List Decl → Proc → Option Entry → Bool
entry_met ds p None = false
entry_met ds p (Some e) = is_reached ds p e.decl

-- the declaration of a name is reached
abbrev pub is_met : List Decl → Proc → Text → Bool
is_met ds p n = entry_met ds p (entry_of (table_of ds) n)

position_there : (ns : List Text) (n : Text) → Member n ns → slice_get ns (position_of ns n) ≡ Some n
position_there [] n h = absurd h
position_there (m ∷ ms) n h = by (bytes_eq m n) refl h (position_there ms n)
  where
    by : (b : Bool) → bytes_eq m n ≡ b → Member n (m ∷ ms) → (Member n ms → slice_get ms (position_of ms n) ≡ Some n) → slice_get (m ∷ ms) (elim b [ true ↦ 0 | false ↦ position_of ms n + 1 ]) ≡ Some n
    by true e k later = ap Some (same_text m n e)
    by false e (inl z) later = let bad : true ≡ false = sym (subst (λ w. bytes_eq w n ≡ true) z (text_itself n)) ∙ e in absurd (cc)
    by false e (inr k) later = let z : position_of ms n + 1 ≡ suc (position_of ms n) = omega arith in ap (slice_get (m ∷ ms)) z ∙ later k

module _ (ds : List Decl) (p : Proc) where
  reached_so : (d : ℕ) → Reached ds p d → is_reached ds p d ≡ true
  reached_so d (inl h) = ap (λ b. b || among (reached_by (module_of ds) p) d) h
  reached_so d (inr h) = or_second (among (own_positions (module_of ds) p) d) (among (reached_by (module_of ds) p) d) h

  so_reached : (d : ℕ) → is_reached ds p d ≡ true → Reached ds p d
  so_reached d h = by (among (own_positions (module_of ds) p) d) refl h
    where
      by : (a : Bool) → among (own_positions (module_of ds) p) d ≡ a → (a || among (reached_by (module_of ds) p) d) ≡ true → Reached ds p d
      by true e k = inl e
      by false e k = inr k

  pub met_so : (n : Text) (x : Entity) → Met ds p n → entity_of (table_of ds) n ≡ Some x → is_met ds p n ≡ true
  met_so n x u h = let r = entity_entry (table_of ds) n x h in ap (entry_met ds p) r.1 ∙ reached_so r.0.decl (met_reached ds p n r.0 u r.1)

  pub so_met : (n : Text) → is_met ds p n ≡ true → Met ds p n
  so_met n h = by (entry_of (table_of ds) n) refl h
    where
      by : (o : Option Entry) → entry_of (table_of ds) n ≡ o → entry_met ds p o ≡ true → Met ds p n
      by None e k = absurd (cc)
      by (Some y) e k = declared y e (so_reached y.decl k)

  -- the constants, globals and entry values, and the functions, whose names are met
  abbrev pub constant_met : ℕ → Bool
  constant_met k = of_name false (is_met ds p) (slice_get (constant_names ds) k)

  abbrev pub global_met : ℕ → Bool
  global_met k = of_name false (is_met ds p) (slice_get (global_names ds) k)

  abbrev pub vars_met : ℕ → Bool
  vars_met = by_kind (counts_after no_counts ds).constants (counts_after no_counts ds).globals constant_met global_met global_met

  -- a function's name is met, and has that number
  abbrev pub function_met : ℕ → Text → Bool
  function_met f n = is_met ds p n && (function_number (table_of ds) n == f)

  abbrev pub functions_met : ℕ → Bool
  functions_met f = of_name false (function_met f) (slice_get (in_number_order (table_of ds)) f)

-- the numbers that names have in the other program
module _ (ds es : List Decl) where
  abbrev pub there : Option Text → ℕ
  there o = of_name 0 (λ n. number_in (entity_of (table_of es) n)) o

  abbrev pub new_constant : ℕ → ℕ
  new_constant k = there (slice_get (constant_names ds) k)

  abbrev pub new_global : ℕ → ℕ
  new_global k = global_number (counts_after no_counts es) (there (slice_get (global_names ds) k))

  abbrev pub new_entry : ℕ → ℕ
  new_entry k = entry_number (counts_after no_counts es) (there (slice_get (global_names ds) k))

  abbrev pub new_low : ℕ → ℕ
  new_low = by_kind (counts_after no_counts ds).constants (counts_after no_counts ds).globals new_constant new_global new_entry

  abbrev pub new_function : ℕ → ℕ
  new_function f = of_name 0 (λ n. function_number (table_of es) n) (slice_get (in_number_order (table_of ds)) f)

-- a function stands at its number
pub function_there : (ds : List Decl) → fault_of ds ≡ None → (n : Text) (h : Heading) → entity_of (table_of ds) n ≡ Some (a_function h) → slice_get (in_number_order (table_of ds)) (function_number (table_of ds) n) ≡ Some n
unfolding function_number
function_there ds none n h e =
    position_there (in_number_order (table_of ds)) n (order_has (table_of ds) (synonyms_fine (table_of ds) (counts_after no_counts ds) (fine ds none)) (acyclic ds none) n (ap is_function e))

abbrev entity_tag : Entity → ℕ
entity_tag (a_constant k s) = 1
entity_tag (a_global k s) = 2
entity_tag (a_function h) = 3
entity_tag (a_synonym s) = 4
entity_tag (a_procedure k d) = 5

abbrev kind_tag : Option Entity → ℕ
kind_tag None = 0
kind_tag (Some x) = suc (entity_tag x)

bare_tag : (o : Option Entity) → kind_tag (bare_meaning o) ≡ kind_tag o
bare_tag None = refl
bare_tag (Some (a_constant k s)) = refl
bare_tag (Some (a_global k s)) = refl
bare_tag (Some (a_function h)) = refl
bare_tag (Some (a_synonym s)) = refl
bare_tag (Some (a_procedure k d)) = refl

module _ (ds : List Decl) (p : Proc) (es : List Decl) (q : Proc) (twins : Twins ds p es q) (back : Twins es q ds p) (none : fault_of ds ≡ None) (none_there : fault_of es ≡ None) where
  abbrev T : Table
  T = table_of ds

  abbrev U : Table
  U = table_of es

  abbrev C : Counts
  C = counts_after no_counts ds

  abbrev D : Counts
  D = counts_after no_counts es

  abbrev Functions : ℕ → Type 0
  Functions f = IsTrue (functions_met ds p f)

  -- variables are numbered there as constants, globals and entry values are, and those that are met are read
  module _ (new_var : ℕ → ℕ) (V : ℕ → Type 0)
      (low : (v : ℕ) → v < C.constants + (C.globals + C.globals) → new_var v ≡ new_low ds es v)
      (read : (v : ℕ) → v < C.constants + (C.globals + C.globals) → vars_met ds p v ≡ true → V v)
      (Used : Text → Type 0) where
    abbrev AlikeHere : Text → Option Entity → Option Entity → Type 0
    AlikeHere = AlikeEntity (new_function ds es) new_var Functions V Used T U C D

    constant_alike : (n : Text) (k l : ℕ) (x y : Ty) → Met ds p n → entity_of T n ≡ Some (a_constant k x) → entity_of U n ≡ Some (a_constant l y) → AlikeHere n (Some (a_constant k x)) (Some (a_constant l y))
    constant_alike n k l x y u e f =
        let a : slice_get (constant_names ds) k ≡ Some n = is_named ds n (a_constant k x) e in
        let b = place_below (constant_names ds) k n a in
        let z = constants_counted ds in
        let s : k < C.constants = omega (arith, b, z) in
        let w : k < C.constants + (C.globals + C.globals) = omega (arith, s) in
        constants
        (low k w ∙ (kind_constant C.constants C.globals (new_constant ds es) (new_global ds es) (new_entry ds es) k s ∙ (ap (there ds es) a ∙ ap number_in f)))
        (read k w (kind_constant C.constants C.globals (constant_met ds p) (global_met ds p) (global_met ds p) k s ∙ (ap (of_name false (is_met ds p)) a ∙ met_so ds p n (a_constant k x) u e)))

    global_alike : (n : Text) (k l : ℕ) (x y : Ty) → Met ds p n → entity_of T n ≡ Some (a_global k x) → entity_of U n ≡ Some (a_global l y) → AlikeHere n (Some (a_global k x)) (Some (a_global l y))
    global_alike n k l x y u e f =
        let a : slice_get (global_names ds) k ≡ Some n = is_named ds n (a_global k x) e in
        let b = place_below (global_names ds) k n a in
        let z = globals_counted ds in
        let s : k < C.globals = omega (arith, b, z) in
        let v : C.constants + k < C.constants + (C.globals + C.globals) = omega (arith, s) in
        let w : C.constants + (C.globals + k) < C.constants + (C.globals + C.globals) = omega (arith, s) in
        let m = ap (of_name false (is_met ds p)) a ∙ met_so ds p n (a_global k x) u e in
        let t = ap (there ds es) a ∙ ap number_in f in
        globals
        (low (C.constants + k) v ∙ (kind_global C.constants C.globals (new_constant ds es) (new_global ds es) (new_entry ds es) k s ∙ ap (global_number D) t))
        (read (C.constants + k) v (kind_global C.constants C.globals (constant_met ds p) (global_met ds p) (global_met ds p) k s ∙ m))
        (low (C.constants + (C.globals + k)) w ∙ (kind_entry C.constants C.globals (new_constant ds es) (new_global ds es) (new_entry ds es) k ∙ ap (entry_number D) t))
        (read (C.constants + (C.globals + k)) w (kind_entry C.constants C.globals (constant_met ds p) (global_met ds p) (global_met ds p) k ∙ m))

    function_alike : (n : Text) (g h : Heading) → Met ds p n → entity_of T n ≡ Some (a_function g) → AlikeHere n (Some (a_function g)) (Some (a_function h))
    function_alike n g h u e =
        let a = function_there ds none n g e in
        functions (ap (of_name 0 (λ m. function_number U m)) a) (ap (of_name false (function_met ds p (function_number T n))) a ∙ (λ i. met_so ds p n (a_function g) u e i && itself (function_number T n) i))

    entities : (n : Text) (a b : Option Entity) → Met ds p n → entity_of T n ≡ a → entity_of U n ≡ b → kind_tag a ≡ kind_tag b → AlikeHere n a b
    entities n None None u e f z = undeclared
    entities n (Some (a_constant k x)) (Some (a_constant l y)) u e f z = constant_alike n k l x y u e f
    entities n (Some (a_global k x)) (Some (a_global l y)) u e f z = global_alike n k l x y u e f
    entities n (Some (a_function g)) (Some (a_function h)) u e f z = function_alike n g h u e
    entities n (Some (a_synonym x)) (Some (a_synonym y)) u e f z = synonyms
    entities n (Some (a_procedure k x)) (Some (a_procedure l y)) u e f z = procedures
    entities n a b u e f z = absurd (omega (arith, z))

    pub name_alike : (n : Text) → Met ds p n → AlikeName (new_function ds es) new_var Functions V Used T U C D n
    name_alike n u = record {
      entity = entities n (entity_of T n) (entity_of U n) u refl refl (sym (bare_tag (entity_of T n)) ∙ (ap kind_tag (same_entity ds p es q twins back none none_there n u) ∙ bare_tag (entity_of U n)));
      sort = sym (same_sort ds p es q twins back none none_there n u);
    }
