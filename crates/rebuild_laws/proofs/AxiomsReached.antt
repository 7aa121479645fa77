-- The axioms that are reached are those among the reached declarations, in order of declaration.
use Rattle.std.specs.Prelude.{◌≡◌, ℕ, zero, suc, ◌+◌, ◌<◌, ◌≤◌, ◌^◌, ◌==◌, Bool, true, false, not, ◌||◌, ◌&&◌, cond, codes, decimal, List, [], ◌∷◌, ◌++◌, map, length, drop, filter, flat_map, slice_get, bytes_eq, Option, Some, None, option_map}
use Rattle.std.specs.List.{range_with_len, list_any, cons_option}
use Rattle.std.proofs.Common.{refl, ap, sym, ◌∙◌, subst, arith, inl, inr, ◌⊎◌}
use Rattle.std.proofs.lemmas.Fmt.{decimal_injective}
use Rattle.std.proofs.lemmas.List.{append_cancel_left}
use Rattle.logic_core.proofs.Booleans.{or_second, same_test}
use Rattle.logic_core.specs.Tree.{Tree}
use Rattle.bpl_lex.specs.Shape.{is_identifier}
use Rattle.bpl_ast.specs.Place.{Name}
use Rattle.bpl_ast.specs.Tree.{Expr, no_groups, group}
use Rattle.bpl_ast.specs.Statement.{DeclBody, constant, function, axiom_of, variables, synonym, procedure, implementation, Decl, name_of, axioms_with}
use Rattle.bpl_model.specs.Module.{Proc, Module, DeclText}
use Rattle.bpl_model.specs.Reach.{among, decl_at, positions, is_named, axiom_name, leads_to, own_positions, reached_by}
use Rattle.bpl_scopes.specs.Scopes.{Text, Table, table_of, Counts, no_counts, counts_after}
use Rattle.bpl_scopes.specs.declared.part.Part.TheVariants.{Axiom as in_axiom}
use Rattle.bpl_declaration_faults.specs.Variables.{scope_of}
use Rattle.bpl_terms.specs.Terms.{term_of}
use Rattle.canonical_text.specs.WrittenExpression.{IsName}
use Rattle.canonical_text.specs.WrittenStatement.{IsWrittenDecl}
use Rattle.canonical_text.specs.RoundTrip.{AreWrittenDecls}
use Rattle.canonical_text.proofs.Alone.{name_identifier}
use Rattle.bpl_resolve.specs.Elaborate.{axioms_in, decl_text, module_of}
use Rattle.bpl_resolve.proofs.Ways.{same_text, text_itself}
use Rattle.vc_build.specs.Depends.{is_reached_axiom, axioms_among, reached_axioms}
use Rattle.rebuild_laws.proofs.Settled.{itself, same_number, among_passed, reached_within}
use Rattle.rebuild_laws.proofs.ReachClosed.{is_passed, reached_stable}
use Rattle.rebuild_laws.specs.DependencyTexts.{bodies_at, other_positions}
use Rattle.rebuild_laws.proofs.UsedNames.{text_there}
use Rattle.rebuild_laws.proofs.OrderOfNames.{first_left}

-- how many axioms stand before a position
abbrev pub axioms_before : ℕ → List Decl → ℕ → ℕ
axioms_before k xs zero = k
axioms_before k [] (suc i) = k
axioms_before k (x ∷ xs) (suc i) = axioms_before (axioms_with k x.body) xs i

one_more : (k : ℕ) (d : DeclBody) → (k ≤ axioms_with k d) × (axioms_with k d ≤ suc k)
one_more k (constant u ns t) = (omega arith, omega arith)
one_more k (function n ps ins t x) = (omega arith, omega arith)
one_more k (axiom_of x) = (omega arith, omega arith)
one_more k (variables gs) = (omega arith, omega arith)
one_more k (synonym n t) = (omega arith, omega arith)
one_more k (procedure n ps g ss b) = (omega arith, omega arith)
one_more k (implementation n ps g b) = (omega arith, omega arith)

no_fewer : (k : ℕ) (xs : List Decl) (i : ℕ) → k ≤ axioms_before k xs i
no_fewer k xs zero = omega arith
no_fewer k [] (suc i) = omega arith
no_fewer k (x ∷ xs) (suc i) = let a = (one_more k x.body).0 in let b = no_fewer (axioms_with k x.body) xs i in omega (arith, a, b)

not_more : (k : ℕ) (xs : List Decl) (i : ℕ) → axioms_before k xs i ≤ k + i
not_more k xs zero = omega arith
not_more k [] (suc i) = omega arith
not_more k (x ∷ xs) (suc i) = let a = (one_more k x.body).1 in let b = not_more (axioms_with k x.body) xs i in omega (arith, a, b)

pub next_before : (k : ℕ) (xs : List Decl) (i : ℕ) (x : Decl) → slice_get xs i ≡ Some x → axioms_before k xs (suc i) ≡ axioms_with (axioms_before k xs i) x.body
next_before k [] i x e = absurd (cc)
next_before k (y ∷ ys) zero x e = let z : y ≡ x = cc in ap (λ (w : Decl). axioms_with k w.body) z
next_before k (y ∷ ys) (suc i) x e = next_before (axioms_with k y.body) ys i x e

pub written_there : (k : ℕ) (xs : List Decl) (i : ℕ) (x : Decl) → AreWrittenDecls k xs → slice_get xs i ≡ Some x → (x.name ≡ name_of (axioms_before k xs i) x.body) × IsWrittenDecl x.body
written_there k [] i x w e = absurd (cc)
written_there k (y ∷ ys) zero x w e = let z : y ≡ x = cc in subst (λ (v : Decl). (v.name ≡ name_of k v.body) × IsWrittenDecl v.body) z (w.0, w.1)
written_there k (y ∷ ys) (suc i) x w e = written_there (axioms_with k y.body) ys i x w.2 e

abbrev IsAxiom : DeclBody → Type 0
IsAxiom d = (x : Expr) × (d ≡ axiom_of x)

-- two axioms with as many before them stand at one position
one_position : (k : ℕ) (xs : List Decl) (i j : ℕ) (x y : Decl) → slice_get xs i ≡ Some x → slice_get xs j ≡ Some y → IsAxiom x.body → IsAxiom y.body → axioms_before k xs i ≡ axioms_before k xs j → i ≡ j
one_position k [] i j x y e f a b h = absurd (cc)
one_position k (z ∷ zs) zero zero x y e f a b h = refl
one_position k (z ∷ zs) zero (suc j) x y e f a b h =
    let q : z ≡ x = cc in
    let s : axioms_with k z.body ≡ suc k = ap (axioms_with k) (ap (λ (w : Decl). w.body) q ∙ a.1) in
    let r = no_fewer (axioms_with k z.body) zs j in
    absurd (omega (arith, h, s, r))
one_position k (z ∷ zs) (suc i) zero x y e f a b h =
    let q : z ≡ y = cc in
    let s : axioms_with k z.body ≡ suc k = ap (axioms_with k) (ap (λ (w : Decl). w.body) q ∙ b.1) in
    let r = no_fewer (axioms_with k z.body) zs i in
    absurd (omega (arith, h, s, r))
one_position k (z ∷ zs) (suc i) (suc j) x y e f a b h = ap suc (one_position (axioms_with k z.body) zs i j x y e f a b h)

-- what is named as an axiom is one, of that number
no_name : (k : ℕ) (m : Name) → IsName m → bytes_eq (axiom_name (suc k)) m.text ≡ true → ⊥
no_name k m i e =
    let q : is_identifier (axiom_name (suc k)) ≡ true = ap is_identifier (same_text (axiom_name (suc k)) m.text e) ∙ name_identifier m.text i in
    let f : is_identifier (axiom_name (suc k)) ≡ false = refl in
    let z = sym q ∙ f in
    cc

no_implementation : (k : ℕ) (n : Text) → bytes_eq (axiom_name (suc k)) (codes "implementation " ++ n) ≡ false
no_implementation k n = refl

axiom_named : (d : DeclBody) (k j : ℕ) → IsWrittenDecl d → suc k < 2 ^ 64 → suc j < 2 ^ 64 → bytes_eq (axiom_name (suc k)) (name_of j d) ≡ true → IsAxiom d × (j ≡ k)
axiom_named (constant u [] t) k j w l m e = absurd (w.0)
axiom_named (constant u (n ∷ ns) t) k j w l m e = absurd (no_name k n w.0.0 e)
axiom_named (function n ps ins t x) k j w l m e = absurd (no_name k n w.0 e)
axiom_named (axiom_of x) k j w l m e =
    let z = decimal_injective (suc k) (suc j) l m (append_cancel_left (codes "@") (decimal (suc k)) (decimal (suc j)) (same_text (axiom_name (suc k)) (codes "@" ++ decimal (suc j)) e)) in
    ((x, refl), omega (arith, z))
axiom_named (variables no_groups) k j w l m e = absurd (let q = w.0 in cc)
axiom_named (variables (group [] t c gs)) k j w l m e = absurd (w.1.0)
axiom_named (variables (group (n ∷ ns) t c gs)) k j w l m e = absurd (no_name k n w.1.0.0 e)
axiom_named (synonym n t) k j w l m e = absurd (no_name k n w.0 e)
axiom_named (procedure n ps g ss b) k j w l m e = absurd (no_name k n w.0 e)
axiom_named (implementation n ps g b) k j w l m e = let q = sym (no_implementation k n.text) ∙ e in absurd (cc)

pub any_numbers : (f g : ℕ → Bool) (ns : List ℕ) → ((d : ℕ) → among ns d ≡ true → f d ≡ g d) → list_any f ns ≡ list_any g ns
any_numbers f g [] h = refl
any_numbers f g (n ∷ ns) h = λ i. h n (ap (λ b. b || among ns n) (itself n)) i || any_numbers f g ns (λ d k. h d (or_second (n == d) (among ns d) k)) i

pub in_bounds : (a n d : ℕ) → among (range_with_len a n) d ≡ true → d < a + n
in_bounds a zero d h = absurd (cc)
in_bounds a (suc n) d h = by (a == d) refl h (in_bounds (a + 1) n d)
  where
    by : (b : Bool) → (a == d) ≡ b → (b || among (range_with_len (a + 1) n) d) ≡ true → (among (range_with_len (a + 1) n) d ≡ true → d < (a + 1) + n) → d < a + suc n
    by true e k later = let z = same_number a d e in omega (arith, z)
    by false e k later = let z = later k in omega (arith, z)

pub slice_there : (xs : List Decl) (d : ℕ) → d < length xs → (x : Decl) × (slice_get xs d ≡ Some x)
slice_there [] d h = absurd (omega (arith, h))
slice_there (x ∷ xs) zero h = (x, refl)
slice_there (x ∷ xs) (suc d) h = slice_there xs d (omega (arith, h))

pub below_of : (xs : List Decl) (i : ℕ) (x : Decl) → slice_get xs i ≡ Some x → i < length xs
below_of [] i x e = absurd (cc)
below_of (y ∷ ys) zero x e = omega arith
below_of (y ∷ ys) (suc i) x e = let r = below_of ys i x e in omega (arith, r)

module _ (ds : List Decl) (p : Proc) (written : AreWrittenDecls 0 ds) (few : length ds < 2 ^ 64) (t : Table) (c : Counts)
    (own_have_none : (d : ℕ) (x : Decl) → among (own_positions (module_of ds) p) d ≡ true → slice_get ds d ≡ Some x → axioms_in t c x.body ≡ []) where
  abbrev M : Module
  M = module_of ds

  abbrev R : List ℕ
  R = reached_by M p

  as_many : (xs : List Decl) → length (map (decl_text (table_of ds) (length ds)) xs) ≡ length xs
  as_many [] = refl
  as_many (x ∷ xs) = ap suc (as_many xs)

  abbrev before : ℕ → ℕ
  before i = axioms_before 0 ds i

  few_before : (i : ℕ) (x : Decl) → slice_get ds i ≡ Some x → suc (before i) < 2 ^ 64
  few_before i x e = let a = not_more 0 ds i in let b = below_of ds i x e in omega (arith, a, b, few)

  name_there : (i : ℕ) (x : Decl) → slice_get ds i ≡ Some x → (decl_at M i).name ≡ x.name
  name_there i x e = ap (λ (w : DeclText). w.name) (text_there ds p i x e)

  -- the declaration that is named as an axiom is it
  named_so : (i : ℕ) (x : Decl) → slice_get ds i ≡ Some x → IsAxiom x.body → (d : ℕ) → among R d ≡ true → is_named M (axiom_name (suc (before i))) d ≡ (d == i)
  named_so i x e a d h =
      let z = in_bounds 0 (length M.texts) d (reached_within M p d h) in
      let l = as_many ds in
      let y = slice_there ds d (omega (arith, z, l)) in
      let w = written_there 0 ds d y.0 written y.1 in
      same_test (is_named M (axiom_name (suc (before i))) d) (d == i)
      (λ q.
      let s = axiom_named y.0.body (before i) (before d) w.1 (few_before i x e) (few_before d y.0 y.1) (sym (ap (bytes_eq (axiom_name (suc (before i)))) (name_there d y.0 y.1 ∙ w.0)) ∙ q) in
      subst (λ v. (d == v) ≡ true) (one_position 0 ds d i y.0 x y.1 e s.0 a s.1) (itself d))
      (λ q.
      let v = same_number d i q in
      let u = written_there 0 ds i x written e in
      subst (λ k. is_named M (axiom_name (suc (before i))) k ≡ true) (sym v)
      (ap (bytes_eq (axiom_name (suc (before i)))) (name_there i x e ∙ (u.0 ∙ ap (name_of (before i)) a.1)) ∙ text_itself (axiom_name (suc (before i)))))

  reached_so : (i : ℕ) (x : Decl) → slice_get ds i ≡ Some x → IsAxiom x.body → is_reached_axiom M R (suc (before i)) ≡ among R i
  reached_so i x e a = any_numbers (is_named M (axiom_name (suc (before i)))) (λ d. d == i) R (named_so i x e a)

  abbrev own? : ℕ → Bool
  own? d = among (own_positions M p) d

  abbrev led? : ℕ → Bool
  led? d = leads_to M R d

  abbrev others_among : List ℕ → List ℕ
  others_among ks = filter (λ d. not (own? d)) (filter led? ks)

  abbrev axioms_at : List ℕ → List Tree
  axioms_at ks = flat_map (axioms_in t c) (bodies_at ds ks)

  -- a position that is there, or passed by
  with_or_without : (k : ℕ) (rest : List ℕ) → axioms_at (others_among (k ∷ rest)) ≡ cond (led? k && not (own? k)) (axioms_at (k ∷ others_among rest)) (axioms_at (others_among rest))
  with_or_without k rest = by (led? k) refl
    where
      by : (b : Bool) → led? k ≡ b → axioms_at (filter (λ d. not (own? d)) (cond (led? k) (k ∷ filter led? rest) (filter led? rest))) ≡ cond (led? k && not (own? k)) (axioms_at (k ∷ others_among rest)) (axioms_at (others_among rest))
      by true e =
          ap (λ b. axioms_at (filter (λ d. not (own? d)) (cond b (k ∷ filter led? rest) (filter led? rest)))) e
          ∙ (owned (not (own? k))
          ∙ ap (λ b. cond (b && not (own? k)) (axioms_at (k ∷ others_among rest)) (axioms_at (others_among rest))) (sym e))
        where
          owned : (b : Bool) → axioms_at (cond b (k ∷ others_among rest) (others_among rest)) ≡ cond b (axioms_at (k ∷ others_among rest)) (axioms_at (others_among rest))
          owned true = refl
          owned false = refl
      by false e =
          ap (λ b. axioms_at (filter (λ d. not (own? d)) (cond b (k ∷ filter led? rest) (filter led? rest)))) e
          ∙ ap (λ b. cond (b && not (own? k)) (axioms_at (k ∷ others_among rest)) (axioms_at (others_among rest))) (sym e)

  axioms_of : (k : ℕ) (x : Decl) (rest : List ℕ) → slice_get ds k ≡ Some x → axioms_at (k ∷ rest) ≡ axioms_in t c x.body ++ axioms_at rest
  axioms_of k x rest e = ap (λ (o : Option Decl). flat_map (axioms_in t c) (cons_option (option_map (λ (d : Decl). d.body) o) (bodies_at ds rest))) e

  -- one that is no axiom adds nothing
  no_axiom : (k : ℕ) (x : Decl) (rest : List ℕ) → slice_get ds k ≡ Some x → axioms_in t c x.body ≡ [] → axioms_at (others_among (k ∷ rest)) ≡ axioms_at (others_among rest)
  no_axiom k x rest e h = with_or_without k rest ∙ by (led? k && not (own? k))
    where
      by : (b : Bool) → cond b (axioms_at (k ∷ others_among rest)) (axioms_at (others_among rest)) ≡ axioms_at (others_among rest)
      by true = axioms_of k x (others_among rest) e ∙ ap (λ ys. ys ++ axioms_at (others_among rest)) h
      by false = refl

  an_axiom : (k : ℕ) (x : Decl) (rest : List ℕ) (a : Tree) → slice_get ds k ≡ Some x → axioms_in t c x.body ≡ a ∷ [] → axioms_at (others_among (k ∷ rest)) ≡ cond (led? k) (a ∷ axioms_at (others_among rest)) (axioms_at (others_among rest))
  an_axiom k x rest a e h = with_or_without k rest ∙ (ap (λ b. cond (led? k && not b) (axioms_at (k ∷ others_among rest)) (axioms_at (others_among rest))) (not_own (own? k) refl) ∙ by (led? k))
    where
      not_own : (b : Bool) → own? k ≡ b → own? k ≡ false
      not_own true f = let z = sym h ∙ own_have_none k x f e in absurd (cc)
      not_own false f = f

      by : (b : Bool) → cond (b && true) (axioms_at (k ∷ others_among rest)) (axioms_at (others_among rest)) ≡ cond b (a ∷ axioms_at (others_among rest)) (axioms_at (others_among rest))
      by true = axioms_of k x (others_among rest) e ∙ ap (λ ys. ys ++ axioms_at (others_among rest)) h
      by false = refl

  from : (xs : List Decl) (k n : ℕ) → drop k ds ≡ xs → n ≡ suc (before k) → ((d : ℕ) → among (range_with_len k (length xs)) d ≡ true → among (positions M) d ≡ true)
      → axioms_among M R n (flat_map (λ (x : Decl). axioms_in t c x.body) xs) ≡ axioms_at (others_among (range_with_len k (length xs)))
  from [] k n e m within = refl
  from (x ∷ xs) k n e m within =
      let r = first_left k ds x xs e in
      let one : k + 1 ≡ suc k = omega arith in
      let b = next_before 0 ds k x r.0 in
      by x.body refl r.0 (led_same_here (within k (ap (λ b. b || among (range_with_len (k + 1) (length xs)) k) (itself k)))) b
      (λ j q. from xs (k + 1) j (ap (λ j. drop j ds) one ∙ r.1) (q ∙ ap (λ i. suc (before i)) (sym one)) (λ d h. within d (or_second (k == d) (among (range_with_len (k + 1) (length xs)) d) h)))
    where
      led_same_here : among (positions M) k ≡ true → among R k ≡ led? k
      led_same_here h = same_test (among R k) (led? k)
          (λ e. (among_passed led? (positions M) k (subst (λ w. among w k ≡ true) (sym (reached_stable M p)) e)).1)
          (λ e. subst (λ w. among w k ≡ true) (reached_stable M p) (is_passed led? (positions M) k h e))

      rest : List ℕ
      rest = range_with_len (k + 1) (length xs)

      other : (d : DeclBody) → x.body ≡ d → axioms_in t c d ≡ [] → slice_get ds k ≡ Some x → axioms_among M R n (flat_map (λ (x : Decl). axioms_in t c x.body) xs) ≡ axioms_at (others_among rest)
          → axioms_among M R n (axioms_in t c d ++ flat_map (λ (x : Decl). axioms_in t c x.body) xs) ≡ axioms_at (others_among (k ∷ rest))
      other d f g a h = ap (λ ys. axioms_among M R n (ys ++ flat_map (λ (x : Decl). axioms_in t c x.body) xs)) g ∙ (h ∙ sym (no_axiom k x rest a (ap (axioms_in t c) f ∙ g)))

      by : (d : DeclBody) → x.body ≡ d → slice_get ds k ≡ Some x → among R k ≡ led? k → before (suc k) ≡ axioms_with (before k) x.body
          → ((j : ℕ) → j ≡ suc (before (suc k)) → axioms_among M R j (flat_map (λ (x : Decl). axioms_in t c x.body) xs) ≡ axioms_at (others_among rest))
          → axioms_among M R n (axioms_in t c d ++ flat_map (λ (x : Decl). axioms_in t c x.body) xs) ≡ axioms_at (others_among (k ∷ rest))
      by (axiom_of y) f a s b later =
          let z : before (suc k) ≡ suc (before k) = b ∙ ap (axioms_with (before k)) f in
          let q : is_reached_axiom M R n ≡ led? k = ap (is_reached_axiom M R) m ∙ (reached_so k x a (y, f) ∙ s) in
          let l = later (n + 1) (omega (arith, m, z)) in
          (λ i. cond (q i) (term_of (scope_of t c in_axiom []) y ∷ l i) (l i)) ∙ sym (an_axiom k x rest (term_of (scope_of t c in_axiom []) y) a (ap (axioms_in t c) f))
      by (constant u ns ty) f a s b later = other _ f refl a (later n (m ∙ ap suc (sym (b ∙ ap (axioms_with (before k)) f))))
      by (function g ps ins ty y) f a s b later = other _ f refl a (later n (m ∙ ap suc (sym (b ∙ ap (axioms_with (before k)) f))))
      by (variables gs) f a s b later = other _ f refl a (later n (m ∙ ap suc (sym (b ∙ ap (axioms_with (before k)) f))))
      by (synonym g ty) f a s b later = other _ f refl a (later n (m ∙ ap suc (sym (b ∙ ap (axioms_with (before k)) f))))
      by (procedure g ps sg ss y) f a s b later = other _ f refl a (later n (m ∙ ap suc (sym (b ∙ ap (axioms_with (before k)) f))))
      by (implementation g ps sg y) f a s b later = other _ f refl a (later n (m ∙ ap suc (sym (b ∙ ap (axioms_with (before k)) f))))

  -- for the table and counts of the program these are the axioms of the procedure's obligations
  pub axioms_there : axioms_among M R 1 (flat_map (λ (x : Decl). axioms_in t c x.body) ds) ≡ axioms_at (other_positions M p)
  axioms_there =
      let z : positions M ≡ range_with_len 0 (length ds) = ap (range_with_len 0) (as_many ds) in
      from ds 0 1 refl refl (λ d h. subst (λ w. among w d ≡ true) (sym z) h)
      ∙ (ap (λ ks. axioms_at (others_among ks)) (sym z)
      ∙ ap (λ ks. axioms_at (filter (λ d. not (own? d)) ks)) (reached_stable M p))
