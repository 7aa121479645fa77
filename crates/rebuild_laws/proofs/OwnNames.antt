-- In a program without faults one declaration has a procedure's name, and at most one is its implementation.
use Rattle.std.specs.Prelude.{◌≡◌, ℕ, suc, Bool, true, false, ◌||◌, cond, codes, decimal, List, [], ◌∷◌, ◌++◌, filter, bytes_eq, Option, Some, None}
use Rattle.std.proofs.Common.{refl, ap, sym, ◌∙◌, subst, inl, inr, ◌⊎◌}
use Rattle.std.proofs.lemmas.List.{append_cancel_left}
use Rattle.bpl_lex.specs.Shape.{is_identifier}
use Rattle.bpl_ast.specs.Place.{Name, Params}
use Rattle.bpl_ast.specs.Tree.{no_groups, group}
use Rattle.bpl_ast.specs.Statement.{Spec, Body, Signature, DeclBody, constant, function, axiom_of, variables, synonym, procedure, implementation, Decl, name_of, axioms_with}
use Rattle.bpl_scopes.specs.declared.fault.TypeKind.TheVariants.{Twice as twice}
use Rattle.bv_base.specs.Text.{is_among}
use Rattle.bpl_scopes.specs.Fault.{again, if_so}
use Rattle.bpl_scopes.specs.Scopes.{Text, Table, Counts, declared_names, texts_of}
use Rattle.bpl_declaration_faults.specs.DeclFaults.{unique_faults, decl_faults, body_names, Before, before_with}
use Rattle.canonical_text.specs.WrittenExpression.{IsName}
use Rattle.canonical_text.specs.WrittenStatement.{IsWrittenDecl}
use Rattle.canonical_text.specs.RoundTrip.{AreWrittenDecls}
use Rattle.canonical_text.proofs.Alone.{name_identifier}
use Rattle.bpl_resolve.specs.Elaborate.{Implemented, or_else, implements, implementation_of}
use Rattle.bpl_resolve.proofs.HasSort.{first_empty, second_empty}
use Rattle.logic_core.proofs.Booleans.{neither as either_false, or_second}
use Rattle.bpl_resolve.proofs.GoesForward.{if_so_empty}
use Rattle.bpl_resolve.proofs.Ways.{same_text, text_itself}
use Rattle.bpl_resolve.proofs.EntriesFine.{NoFaults}

-- names of declarations

abbrev pub implementation_name : Text → Text
implementation_name n = codes "implementation " ++ n

pub apart_by : (b : Bool) → (b ≡ true → ⊥) → b ≡ false
apart_by true h = absurd (h refl)
apart_by false h = refl

-- an identifier is no other text
not_same : (n w : Text) → is_identifier n ≡ true → is_identifier w ≡ false → bytes_eq n w ≡ false
not_same n w h k = apart_by (bytes_eq n w) (λ e. let q = sym h ∙ (ap is_identifier (same_text n w e) ∙ k) in cc)

not_same_back : (n w : Text) → is_identifier n ≡ true → is_identifier w ≡ false → bytes_eq w n ≡ false
not_same_back n w h k = apart_by (bytes_eq w n) (λ e. let q = sym h ∙ (ap is_identifier (sym (same_text w n e)) ∙ k) in cc)

no_axiom_name : (k : ℕ) → is_identifier (codes "@" ++ decimal (suc k)) ≡ false
no_axiom_name k = refl

no_implementation_name : (n : Text) → is_identifier (implementation_name n) ≡ false
no_implementation_name n = refl

among_first : (n m : Text) (ms : List Text) → bytes_eq n m ≡ true → is_among (m ∷ ms) n ≡ true
among_first n m ms e = ap (λ b. b || is_among ms n) e

pub among_more : (ms ns : List Text) (n : Text) → is_among ns n ≡ true → is_among (ms ++ ns) n ≡ true
among_more [] ns n e = e
among_more (m ∷ ms) ns n e = or_second (bytes_eq n m) (is_among (ms ++ ns) n) (among_more ms ns n e)

pub among_some : (ms ns : List Text) (n : Text) → is_among ms n ≡ true → is_among (ms ++ ns) n ≡ true
among_some [] ns n e = absurd (cc)
among_some (m ∷ ms) ns n e = by (bytes_eq n m) (is_among ms n) (is_among (ms ++ ns) n) e (among_some ms ns n)
  where
    by : (a b c : Bool) → (a || b) ≡ true → (b ≡ true → c ≡ true) → (a || c) ≡ true
    by true b c e h = refl
    by false b c e h = h e

among_none : (ms ns : List Text) (n : Text) → is_among (ms ++ ns) n ≡ false → is_among ns n ≡ false
among_none ms ns n e = apart_by (is_among ns n) (λ h. let q = sym (among_more ms ns n h) ∙ e in cc)

-- the name of a declaration that is an identifier is one that it declares
declared_first : (d : DeclBody) (k : ℕ) (n : Text) → IsWrittenDecl d → is_identifier n ≡ true → bytes_eq n (name_of k d) ≡ true → is_among (texts_of (declared_names d)) n ≡ true
declared_first (constant u [] t) k n w i e = absurd (w.0)
declared_first (constant u (m ∷ ms) t) k n w i e = among_first n m.text (texts_of ms) e
declared_first (function m ps ins t b) k n w i e = among_first n m.text [] e
declared_first (axiom_of x) k n w i e = let q = sym e ∙ not_same n (codes "@" ++ decimal (suc k)) i (no_axiom_name k) in absurd (cc)
declared_first (variables no_groups) k n w i e = absurd (let q = w.0 in cc)
declared_first (variables (group [] t c gs)) k n w i e = absurd (w.1.0)
declared_first (variables (group (m ∷ ms) t c gs)) k n w i e = among_first n m.text _ e
declared_first (synonym m t) k n w i e = among_first n m.text [] e
declared_first (procedure m ps s ss b) k n w i e = among_first n m.text [] e
declared_first (implementation m ps s b) k n w i e = let q = sym e ∙ not_same n (implementation_name m.text) i (no_implementation_name m.text) in absurd (cc)

module _ (t : Table) (c : Counts) where
  -- no declared name stood before
  pub decl_again : (b : Before) (d : DeclBody) → decl_faults t c b d ≡ [] → again twice b.names (declared_names d) ≡ []
  decl_again b (constant u ns s) e = first_empty (again twice b.names ns) _ (second_empty (unique_faults u) _ e)
  decl_again b (function n ps ins r x) e = first_empty (again twice b.names (n ∷ [])) _ e
  decl_again b (axiom_of x) e = refl
  decl_again b (variables gs) e = first_empty _ _ e
  decl_again b (synonym n s) e = first_empty (again twice b.names (n ∷ [])) _ e
  decl_again b (procedure n ps g ss body) e = first_empty (again twice b.names (n ∷ [])) _ e
  decl_again b (implementation n ps g body) e = refl

  pub again_apart : (before : List Text) (ns : List Name) (n : Text) → again twice before ns ≡ [] → is_among (texts_of ns) n ≡ true → is_among before n ≡ false
  again_apart before [] n e h = absurd (cc)
  again_apart before (m ∷ ms) n e h = by (again_apart (m.text ∷ before) ms n (second_empty (if_so (is_among before m.text) twice m.at) _ e)) (bytes_eq n m.text) refl h
    where
      by : (is_among (texts_of ms) n ≡ true → is_among (m.text ∷ before) n ≡ false) → (r : Bool) → bytes_eq n m.text ≡ r → (r || is_among (texts_of ms) n) ≡ true → is_among before n ≡ false
      by later true q g = subst (λ x. is_among before x ≡ false) (sym (same_text n m.text q)) (if_so_empty (is_among before m.text) twice m.at (first_empty _ _ e))
      by later false q g = (either_false (bytes_eq n m.text) _ (later g)).1

  pub declared_apart : (b : Before) (d : DeclBody) (n : Text) → decl_faults t c b d ≡ [] → is_among (texts_of (declared_names d)) n ≡ true → is_among b.names n ≡ false
  declared_apart b d n e h = again_apart b.names (declared_names d) n (decl_again b d e) h

-- a declaration that stands among them
abbrev pub Stands : DeclBody → List Decl → Type 0
Stands d [] = ⊥
Stands d (x ∷ xs) = (x.body ≡ d) ⊎ Stands d xs

-- the declarations of a name
abbrev pub named : Text → List Decl → List Decl
named n xs = filter (λ (x : Decl). bytes_eq n x.name) xs

abbrev pub IsOnly : Text → DeclBody → List Decl → Type 0
IsOnly n d xs = (x : Decl) × (named n xs ≡ x ∷ []) × (x.body ≡ d)

-- the first of them has the name, or has it not
one_first : (n : Text) (x : Decl) (xs : List Decl) → bytes_eq n x.name ≡ true → named n xs ≡ [] → named n (x ∷ xs) ≡ x ∷ []
one_first n x xs e h = ap (λ b. cond b (x ∷ named n xs) (named n xs)) e ∙ ap (λ ys. x ∷ ys) h

passed_by : (n : Text) (x : Decl) (xs ys : List Decl) → bytes_eq n x.name ≡ false → named n xs ≡ ys → named n (x ∷ xs) ≡ ys
passed_by n x xs ys e h = ap (λ b. cond b (x ∷ named n xs) (named n xs)) e ∙ h

module _ (t : Table) (c : Counts) (n : Name) (is_name : IsName n) where
  identifier : is_identifier n.text ≡ true
  identifier = name_identifier n.text is_name

  declares : (k : ℕ) (x : Decl) → x.name ≡ name_of k x.body → IsWrittenDecl x.body → bytes_eq n.text x.name ≡ true → is_among (texts_of (declared_names x.body)) n.text ≡ true
  declares k x m w e = declared_first x.body k n.text w identifier (ap (bytes_eq n.text) (sym m) ∙ e)

  -- behind a declaration of the name there is none
  none_named : (b : Before) (k : ℕ) (xs : List Decl) → AreWrittenDecls k xs → NoFaults t c b xs → is_among b.names n.text ≡ true → named n.text xs ≡ []
  none_named b k [] w f a = refl
  none_named b k (x ∷ xs) w f a =
      passed_by n.text x xs [] (apart_by (bytes_eq n.text x.name) (λ e. let q = sym a ∙ declared_apart t c b x.body n.text f.0 (declares k x w.0 w.1 e) in cc))
      (none_named (before_with b x.body) (axioms_with k x.body) xs w.2 f.1 (among_more (texts_of (declared_names x.body)) b.names n.text a))

  module _ (ps : Option Params) (g : Signature) (ss : List Spec) (o : Option Body) where
    abbrev P : DeclBody
    P = procedure n ps g ss o

    own_among : (d : DeclBody) → d ≡ P → is_among (texts_of (declared_names d)) n.text ≡ true
    own_among d e = subst (λ y. is_among (texts_of (declared_names y)) n.text ≡ true) (sym e) (among_first n.text n.text [] (text_itself n.text))

    -- before it there is none
    not_before : (b : Before) (xs : List Decl) → NoFaults t c b xs → Stands P xs → is_among b.names n.text ≡ false
    not_before b [] f h = absurd h
    not_before b (x ∷ xs) f (inl e) = declared_apart t c b x.body n.text f.0 (own_among x.body e)
    not_before b (x ∷ xs) f (inr h) = among_none (texts_of (declared_names x.body)) b.names n.text (not_before (before_with b x.body) xs f.1 h)

    named_itself : (k : ℕ) (x : Decl) → x.name ≡ name_of k x.body → x.body ≡ P → bytes_eq n.text x.name ≡ true
    named_itself k x m e = subst (λ y. bytes_eq n.text y ≡ true) (sym (m ∙ ap (name_of k) e)) (text_itself n.text)

    pub one_named : (b : Before) (k : ℕ) (xs : List Decl) → AreWrittenDecls k xs → NoFaults t c b xs → Stands P xs → IsOnly n.text P xs
    one_named b k [] w f h = absurd h
    one_named b k (x ∷ xs) w f (inl e) =
        (x, one_first n.text x xs (named_itself k x w.0 e) (none_named (before_with b x.body) (axioms_with k x.body) xs w.2 f.1 (among_some (texts_of (declared_names x.body)) b.names n.text (own_among x.body e))), e)
    one_named b k (x ∷ xs) w f (inr h) =
        let r = one_named (before_with b x.body) (axioms_with k x.body) xs w.2 f.1 h in
        let z = not_before (before_with b x.body) xs f.1 h in
        (r.0, passed_by n.text x xs (r.0 ∷ []) (apart_by (bytes_eq n.text x.name) (λ e. let q = sym (among_some (texts_of (declared_names x.body)) b.names n.text (declares k x w.0 w.1 e)) ∙ z in cc)) r.1, r.2)

-- implementations

-- a declaration that implements a procedure
pub record IsImplementation (d : DeclBody) (n : Text) : Type 0 where
  pub name : Name
  pub params : Option Params
  pub signature : Signature
  pub body : Body
  pub is : d ≡ implementation name params signature body
  pub same : name.text ≡ n

module _ (n : Text) where
  abbrev its_name : Text
  its_name = implementation_name n

  none_other : (d : DeclBody) (m : Name) → IsName m → bytes_eq its_name m.text ≡ true → IsImplementation d n
  none_other d m i e = let q = sym e ∙ not_same_back m.text its_name (name_identifier m.text i) (no_implementation_name n) in absurd (cc)

  no_axiom : (k : ℕ) → bytes_eq its_name (codes "@" ++ decimal (suc k)) ≡ false
  no_axiom k = refl

  implementation_named : (d : DeclBody) (k : ℕ) → IsWrittenDecl d → bytes_eq its_name (name_of k d) ≡ true → IsImplementation d n
  implementation_named (constant u [] t) k w e = absurd (w.0)
  implementation_named (constant u (m ∷ ms) t) k w e = none_other (constant u (m ∷ ms) t) m w.0.0 e
  implementation_named (function m ps ins t b) k w e = none_other (function m ps ins t b) m w.0 e
  implementation_named (axiom_of x) k w e = let q = sym e ∙ no_axiom k in absurd (cc)
  implementation_named (variables no_groups) k w e = absurd (let q = w.0 in cc)
  implementation_named (variables (group [] t c gs)) k w e = absurd (w.1.0)
  implementation_named (variables (group (m ∷ ms) t c gs)) k w e = none_other (variables (group (m ∷ ms) t c gs)) m w.1.0.0 e
  implementation_named (synonym m t) k w e = none_other (synonym m t) m w.0 e
  implementation_named (procedure m ps s ss b) k w e = none_other (procedure m ps s ss b) m w.0 e
  implementation_named (implementation m ps s b) k w e =
      record { name = m; params = ps; signature = s; body = b; is = refl; same = sym (append_cancel_left (codes "implementation ") n m.text (same_text its_name (implementation_name m.text) e)) }

  bodies_apart : (t : Table) (c : Counts) (b : Before) (d : DeclBody) → IsImplementation d n → decl_faults t c b d ≡ [] → is_among b.bodies n ≡ false
  bodies_apart t c b d h e =
      let f = subst (λ y. decl_faults t c b y ≡ []) h.is e in
      subst (λ y. is_among b.bodies y ≡ false) h.same (if_so_empty (is_among b.bodies h.name.text) twice h.name.at (first_empty (if_so (is_among b.bodies h.name.text) twice h.name.at) _ f))

  bodies_with : (d : DeclBody) → IsImplementation d n → is_among (body_names d) n ≡ true
  bodies_with d h = subst (λ y. is_among (body_names y) n ≡ true) (sym h.is) (among_first n h.name.text [] (ap (bytes_eq n) h.same ∙ text_itself n))

module _ (t : Table) (c : Counts) (n : Text) where
  -- behind a body of the procedure there is no implementation
  none_implements : (b : Before) (k : ℕ) (xs : List Decl) → AreWrittenDecls k xs → NoFaults t c b xs → is_among b.bodies n ≡ true → named (implementation_name n) xs ≡ []
  none_implements b k [] w f a = refl
  none_implements b k (x ∷ xs) w f a =
      passed_by (implementation_name n) x xs [] (apart_by (bytes_eq (implementation_name n) x.name) (λ e. let q = sym a ∙ bodies_apart n t c b x.body (implementation_named n x.body k w.1 (ap (bytes_eq (implementation_name n)) (sym w.0) ∙ e)) f.0 in cc))
      (none_implements (before_with b x.body) (axioms_with k x.body) xs w.2 f.1 (among_more (body_names x.body) b.bodies n a))

  -- what implements it has its name
  is_first : (d : DeclBody) (k : ℕ) (i : Implemented) → implements n d ≡ Some i → bytes_eq (implementation_name n) (name_of k d) ≡ true
  is_first (implementation m ps g b) k i e = by (bytes_eq m.text n) refl e
    where
      by : (r : Bool) → bytes_eq m.text n ≡ r → ◌≡◌ {A = Option Implemented} (elim r [ true ↦ Some (g, b) | false ↦ None ]) (Some i) → bytes_eq (implementation_name n) (implementation_name m.text) ≡ true
      by true q z = subst (λ y. bytes_eq (implementation_name n) (implementation_name y) ≡ true) (sym (same_text m.text n q)) (text_itself (implementation_name n))
      by false q z = absurd (cc)
  is_first (constant u ns s) k i e = absurd (cc)
  is_first (function m ps ins r x) k i e = absurd (cc)
  is_first (axiom_of x) k i e = absurd (cc)
  is_first (variables gs) k i e = absurd (cc)
  is_first (synonym m s) k i e = absurd (cc)
  is_first (procedure m ps g ss b) k i e = absurd (cc)

  -- one has its name where one is found
  pub record OneImplements (xs : List Decl) : Type 0 where
    pub decl : Decl
    pub only : named (implementation_name n) xs ≡ decl ∷ []
    pub is : IsImplementation decl.body n

  pub one_implements : (b : Before) (k : ℕ) (xs : List Decl) (i : Implemented) → AreWrittenDecls k xs → NoFaults t c b xs → implementation_of xs n ≡ Some i → OneImplements xs
  one_implements b k [] i w f e = absurd (cc)
  one_implements b k (x ∷ xs) i w f e = by (one_implements (before_with b x.body) (axioms_with k x.body) xs i w.2 f.1) (bytes_eq (implementation_name n) x.name) refl
    where
      other : (o : Option Implemented) → implements n x.body ≡ o → bytes_eq (implementation_name n) x.name ≡ false → or_else o (implementation_of xs n) ≡ Some i → implementation_of xs n ≡ Some i
      other None q z g = g
      other (Some j) q z g = let p = sym (ap (bytes_eq (implementation_name n)) w.0 ∙ is_first x.body k j q) ∙ z in absurd (cc)

      by : (implementation_of xs n ≡ Some i → OneImplements xs) → (r : Bool) → bytes_eq (implementation_name n) x.name ≡ r → OneImplements (x ∷ xs)
      by later true z =
          let h = implementation_named n x.body k w.1 (ap (bytes_eq (implementation_name n)) (sym w.0) ∙ z) in
          record { decl = x; only = one_first (implementation_name n) x xs z (none_implements (before_with b x.body) (axioms_with k x.body) xs w.2 f.1 (among_some (body_names x.body) b.bodies n (bodies_with n x.body h))); is = h }
      by later false z =
          let r = later (other (implements n x.body) refl z e) in
          record { decl = r.decl; only = passed_by (implementation_name n) x xs (r.decl ∷ []) z r.only; is = r.is }

-- a procedure with a body of its own has no implementation
module _ (t : Table) (c : Counts) (n : Name) (is_name : IsName n) (ps : Option Params) (g : Signature) (ss : List Spec) (o : Body) where
  abbrev Q : DeclBody
  Q = procedure n ps g ss (Some o)

  no_body_before : (b : Before) (xs : List Decl) → NoFaults t c b xs → Stands Q xs → is_among b.bodies n.text ≡ false
  no_body_before b [] f h = absurd h
  no_body_before b (x ∷ xs) f (inl e) =
      let q = subst (λ y. decl_faults t c b y ≡ []) e f.0 in
      if_so_empty (is_among b.bodies n.text) twice n.at (first_empty (if_so (is_among b.bodies n.text) twice n.at) _ (second_empty (again twice b.names (n ∷ [])) _ q))
  no_body_before b (x ∷ xs) f (inr h) = among_none (body_names x.body) b.bodies n.text (no_body_before (before_with b x.body) xs f.1 h)

  own_body_with : (d : DeclBody) → d ≡ Q → is_among (body_names d) n.text ≡ true
  own_body_with d e = subst (λ y. is_among (body_names y) n.text ≡ true) (sym e) (among_first n.text n.text [] (text_itself n.text))

  its_own_name : (k : ℕ) (x : Decl) → x.name ≡ name_of k x.body → x.body ≡ Q → bytes_eq (implementation_name n.text) x.name ≡ false
  its_own_name k x m e = subst (λ y. bytes_eq (implementation_name n.text) y ≡ false) (sym (m ∙ ap (name_of k) e)) (not_same_back n.text (implementation_name n.text) (name_identifier n.text is_name) (no_implementation_name n.text))

  pub none_for_own : (b : Before) (k : ℕ) (xs : List Decl) → AreWrittenDecls k xs → NoFaults t c b xs → Stands Q xs → named (implementation_name n.text) xs ≡ []
  none_for_own b k [] w f h = absurd h
  none_for_own b k (x ∷ xs) w f (inl e) =
      passed_by (implementation_name n.text) x xs [] (its_own_name k x w.0 e) (none_implements t c n.text (before_with b x.body) (axioms_with k x.body) xs w.2 f.1 (among_some (body_names x.body) b.bodies n.text (own_body_with x.body e)))
  none_for_own b k (x ∷ xs) w f (inr h) =
      let z = no_body_before (before_with b x.body) xs f.1 h in
      passed_by (implementation_name n.text) x xs [] (apart_by (bytes_eq (implementation_name n.text) x.name) (λ e.
      let q = sym (among_some (body_names x.body) b.bodies n.text (bodies_with n.text x.body (implementation_named n.text x.body k w.1 (ap (bytes_eq (implementation_name n.text)) (sym w.0) ∙ e)))) ∙ z in cc))
      (none_for_own (before_with b x.body) (axioms_with k x.body) xs w.2 f.1 h)
