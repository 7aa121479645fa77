-- The texts at positions of a module are the texts of the declarations there.
use Rattle.std.specs.Prelude.{◌≡◌, ℕ, zero, suc, ◌+◌, Bool, true, false, cond, List, [], ◌∷◌, ◌++◌, map, length, drop, filter, flat_map, slice_get, slice_index_or, bytes_eq, Option, Some, None, option_map}
use Rattle.std.specs.List.{AllByRecursion, range_with_len, cons_option}
use Rattle.std.proofs.Common.{refl, ap, ◌∙◌, subst, arith}
use Rattle.bpl_ast.specs.Statement.{DeclBody, Decl, axioms_with}
use Rattle.canonical_text.specs.Lines.{text, contract}
use Rattle.bpl_model.specs.Module.{Proc, DeclText}
use Rattle.bpl_model.specs.Reach.{decl_at, positions, is_named, own_positions}
use Rattle.bpl_scopes.specs.Scopes.{Text, table_of}
use Rattle.canonical_text.specs.WrittenStatement.{IsWrittenDecl}
use Rattle.canonical_text.specs.RoundTrip.{AreWrittenDecls}
use Rattle.canonical_text.specs.Heads.{AreWrittenBodies, text_with}
use Rattle.bpl_resolve.specs.Elaborate.{decl_text, module_of}
use Rattle.vc_build.specs.Depends.{depends}
use Rattle.rebuild_laws.specs.DependencyTexts.{bodies_at, other_positions}

abbrev no_text : DeclText
no_text = record { name = []; text = []; contract = []; leads = []; contract_leads = [] }

abbrev or_given : {A B : Type 0} → (A → B) → B → Option A → B
or_given f d None = d
or_given f d (Some x) = f x

at_mapped : {A B : Type 0} (f : A → B) (d : B) (xs : List A) (n : ℕ) → slice_index_or (map f xs) n d ≡ or_given f d (slice_get xs n)
at_mapped f d [] n = refl
at_mapped f d (x ∷ xs) zero = refl
at_mapped f d (x ∷ xs) (suc n) = at_mapped f d xs n

pub bodies_joined : (ds : List Decl) (ms ns : List ℕ) → bodies_at ds (ms ++ ns) ≡ bodies_at ds ms ++ bodies_at ds ns
bodies_joined ds [] ns = refl
bodies_joined ds (m ∷ ms) ns = ap (cons_option (option_map (λ (d : Decl). d.body) (slice_get ds m))) (bodies_joined ds ms ns) ∙ over (option_map (λ (d : Decl). d.body) (slice_get ds m))
  where
    over : (o : Option DeclBody) → cons_option o (bodies_at ds ms ++ bodies_at ds ns) ≡ cons_option o (bodies_at ds ms) ++ bodies_at ds ns
    over None = refl
    over (Some x) = refl

-- what is written stands at each position
module _ (P : DeclBody → Type 0) where
  bodies_all : (ds : List Decl) → ((n : ℕ) (x : Decl) → slice_get ds n ≡ Some x → P x.body) → (ns : List ℕ) → AllByRecursion P (bodies_at ds ns)
  bodies_all ds h [] = tt
  bodies_all ds h (n ∷ ns) = by (bodies_all ds h ns) (slice_get ds n) refl
    where
      by : AllByRecursion P (bodies_at ds ns) → (o : Option Decl) → slice_get ds n ≡ o → AllByRecursion P (cons_option (option_map (λ (d : Decl). d.body) o) (bodies_at ds ns))
      by rest None e = rest
      by rest (Some x) e = (h n x e, rest)

written_at : (k : ℕ) (ds : List Decl) → AreWrittenDecls k ds → (n : ℕ) (x : Decl) → slice_get ds n ≡ Some x → IsWrittenDecl x.body
written_at k [] w n x e = absurd (cc)
written_at k (d ∷ ds) w zero x e = let q : d ≡ x = cc in subst (λ (y : Decl). IsWrittenDecl y.body) q w.1
written_at k (d ∷ ds) w (suc n) x e = written_at (axioms_with k d.body) ds w.2 n x e

pub bodies_written : (ds : List Decl) → AreWrittenDecls 0 ds → (ns : List ℕ) → AreWrittenBodies (bodies_at ds ns)
bodies_written ds w ns = bodies_all IsWrittenDecl ds (written_at 0 ds w) ns

module _ (ds : List Decl) where
  abbrev its_text : Decl → DeclText
  its_text x = decl_text (table_of ds) (length ds) x

  text_at : (n : ℕ) → decl_at (module_of ds) n ≡ or_given its_text no_text (slice_get ds n)
  text_at n = at_mapped its_text no_text ds n

  -- of each text that is made of a declaration's body, and of none where there is none
  module _ (f : DeclText → List ℕ) (g : DeclBody → List ℕ) (none : f no_text ≡ []) (some : (x : Decl) → f (its_text x) ≡ g x.body) where
    texts_at : (ns : List ℕ) → flat_map (λ n. f (decl_at (module_of ds) n)) ns ≡ flat_map g (bodies_at ds ns)
    texts_at [] = refl
    texts_at (n ∷ ns) = by (texts_at ns) (slice_get ds n) (text_at n)
      where
        by : flat_map (λ n. f (decl_at (module_of ds) n)) ns ≡ flat_map g (bodies_at ds ns) → (o : Option Decl) → decl_at (module_of ds) n ≡ or_given its_text no_text o → flat_map (λ n. f (decl_at (module_of ds) n)) (n ∷ ns) ≡ flat_map g (cons_option (option_map (λ (d : Decl). d.body) o) (bodies_at ds ns))
        by rest None e = λ i. (ap f e ∙ none) i ++ rest i
        by rest (Some x) e = λ i. (ap f e ∙ some x) i ++ rest i

  -- the dependency text is the text of the declarations at its positions
  pub depends_is : (p : Proc) → depends (module_of ds) p ≡ text_with (bodies_at ds (own_positions (module_of ds) p)) (bodies_at ds (other_positions (module_of ds) p))
  depends_is p = λ i. texts_at (λ d. d.text) text refl (λ x. refl) (own_positions (module_of ds) p) i ++ texts_at (λ d. d.contract) contract refl (λ x. refl) (other_positions (module_of ds) p) i

  -- the declarations of a name
  abbrev pub bodies_named : Text → List Decl → List DeclBody
  bodies_named n xs = map (λ (x : Decl). x.body) (filter (λ (x : Decl). bytes_eq n x.name) xs)

  first_left : (k : ℕ) (all : List Decl) (x : Decl) (xs : List Decl) → drop k all ≡ x ∷ xs → (slice_get all k ≡ Some x) × (drop (suc k) all ≡ xs)
  first_left k [] x xs e = absurd (nothing k e)
    where
      nothing : (k : ℕ) → drop k [] ≡ x ∷ xs → ⊥
      nothing zero e = cc
      nothing (suc k) e = cc
  first_left zero (d ∷ ds) x xs e = (cc, cc)
  first_left (suc k) (d ∷ ds) x xs e = first_left k ds x xs e

  named_from : (n : Text) (xs : List Decl) (k : ℕ) → drop k ds ≡ xs → bodies_at ds (filter (is_named (module_of ds) n) (range_with_len k (length xs))) ≡ bodies_named n xs
  named_from n [] k e = refl
  named_from n (x ∷ xs) k e =
      let r = first_left k ds x xs e in
      let a : is_named (module_of ds) n k ≡ bytes_eq n x.name = ap (λ t. bytes_eq n t.name) (text_at k ∙ ap (or_given its_text no_text) r.0) in
      by (bytes_eq n x.name) a r.0 (named_from n xs (k + 1) (ap (λ j. drop j ds) (one_more k) ∙ r.1))
    where
      one_more : (k : ℕ) → k + 1 ≡ suc k
      one_more k = omega arith

      rest : List ℕ
      rest = filter (is_named (module_of ds) n) (range_with_len (k + 1) (length xs))

      by : (b : Bool) → is_named (module_of ds) n k ≡ b → slice_get ds k ≡ Some x → bodies_at ds rest ≡ bodies_named n xs
          → bodies_at ds (filter (is_named (module_of ds) n) (k ∷ range_with_len (k + 1) (length xs))) ≡ map (λ (x : Decl). x.body) (cond b (x ∷ filter (λ (x : Decl). bytes_eq n x.name) xs) (filter (λ (x : Decl). bytes_eq n x.name) xs))
      by true a q h = ap (λ b. bodies_at ds (cond b (k ∷ rest) rest)) a ∙ (ap (λ o. cons_option (option_map (λ (d : Decl). d.body) o) (bodies_at ds rest)) q ∙ ap (λ bs. x.body ∷ bs) h)
      by false a q h = ap (λ b. bodies_at ds (cond b (k ∷ rest) rest)) a ∙ h

  pub named_bodies : (n : Text) → bodies_at ds (filter (is_named (module_of ds) n) (positions (module_of ds))) ≡ bodies_named n ds
  named_bodies n = ap (λ c. bodies_at ds (filter (is_named (module_of ds) n) (range_with_len 0 c))) (as_many ds) ∙ named_from n ds 0 refl
    where
      as_many : (xs : List Decl) → length (map its_text xs) ≡ length xs
      as_many [] = refl
      as_many (x ∷ xs) = ap suc (as_many xs)
