-- A revision leaves what depends on no clause, no body, no axiom and no value of a function, and what other procedures are.
use Rattle.std.proofs.Common.{◌≡◌, refl, sym, ap, ◌∙◌, inl, inr, ℕ, zero, suc, true, false, List, [], ◌∷◌, set, slice_get, Option, Some, None}
use Rattle.std.specs.Prelude.{is_some}
use Rattle.logic_terms.proofs.Booleans.{neither}
use Rattle.bpl_ast.specs.Place.{Name, Params, Ty}
use Rattle.bpl_ast.specs.Tree.{Expr}
use Rattle.bpl_ast.specs.Statement.{Argument, Body, Signature, Spec, DeclBody, constant, function, axiom_of, variables, synonym, procedure, implementation, Decl}
use Rattle.bpl_scopes.specs.Scopes.{Text, Table, Counts}
use Rattle.bpl_resolve.specs.Elaborate.{Implemented, or_else, own_body, implements, implementation_of, proc_of, procs_in}
use Rattle.body_revision.specs.Revised.{names_modified, value_applies, value_quantified, ApplyTheSame, IsRevised}
use Rattle.body_revision.specs.Procedures.{gives_body, any_decl}

-- ---- what depends on no clause, no body, no axiom and no value

pub of_revised : {A : Type 0} (f : DeclBody → A)
    → ((n : Name) (ps : Option Params) (g : Signature) (ss zs : List Spec) (a b : Option Body) → names_modified zs ≡ names_modified ss → is_some b ≡ is_some a → f (procedure n ps g zs b) ≡ f (procedure n ps g ss a))
    → ((n : Name) (ps : Option Params) (g : Signature) (a b : Body) → f (implementation n ps g b) ≡ f (implementation n ps g a))
    → ((x y : Expr) → f (axiom_of y) ≡ f (axiom_of x))
    → ((n : Name) (ps : Option Params) (ins : List Argument) (t : Ty) (x y : Option Expr) → ApplyTheSame ins x y → f (function n ps ins t y) ≡ f (function n ps ins t x)) → (d e : DeclBody) → IsRevised d e → f e ≡ f d
of_revised f p q s v d e (inl r) = ap f r.new ∙ (p r.name r.params r.signature r.specs r.new_specs r.before r.after r.modified r.bodies ∙ sym (ap f r.old))
of_revised f p q s v d e (inr (inl r)) = ap f r.new ∙ (q r.name r.params r.signature r.before r.after ∙ sym (ap f r.old))
of_revised f p q s v d e (inr (inr (inl r))) = ap f r.new ∙ (s r.before r.after ∙ sym (ap f r.old))
of_revised f p q s v d e (inr (inr (inr r))) = ap f r.new ∙ (v r.name r.params r.ins r.result r.before r.after r.same ∙ sym (ap f r.old))

-- two of one and the same
pub of_itself : (d e : DeclBody) → IsRevised d e → IsRevised d d
of_itself d e (inl r) = inl (record { name = r.name; params = r.params; signature = r.signature; specs = r.specs; new_specs = r.specs; before = r.before; after = r.before; modified = refl; bodies = refl; old = r.old; new = r.old })
of_itself d e (inr (inl r)) = inr (inl (record { name = r.name; params = r.params; signature = r.signature; before = r.before; after = r.before; old = r.old; new = r.old }))
of_itself d e (inr (inr (inl r))) = inr (inr (inl (record { before = r.before; after = r.before; old = r.old; new = r.old })))
of_itself d e (inr (inr (inr r))) = inr (inr (inr (record { name = r.name; params = r.params; ins = r.ins; result = r.result; before = r.before; after = r.before; same = record { applied = refl; quantified = refl }; old = r.old; new = r.old })))

pub parted : (d e f : DeclBody) → IsRevised d e → IsRevised d f → IsRevised e f
parted d e f (inl r) (inl s) =
    let same : procedure r.name r.params r.signature r.specs r.before ≡ procedure s.name s.params s.signature s.specs s.before = sym r.old ∙ s.old in
    let specs : r.specs ≡ s.specs = cc same in
    let before : r.before ≡ s.before = cc same in
    inl (record {
      name = s.name;
      params = s.params;
      signature = s.signature;
      specs = r.new_specs;
      new_specs = s.new_specs;
      before = r.after;
      after = s.after;
      modified = s.modified ∙ sym (r.modified ∙ ap names_modified specs);
      bodies = s.bodies ∙ sym (r.bodies ∙ ap is_some before);
      old = r.new ∙ cc same;
      new = s.new;
    })
parted d e f (inl r) (inr (inl s)) = let same : procedure r.name r.params r.signature r.specs r.before ≡ implementation s.name s.params s.signature s.before = sym r.old ∙ s.old in absurd (cc)
parted d e f (inl r) (inr (inr (inl s))) = let same : procedure r.name r.params r.signature r.specs r.before ≡ axiom_of s.before = sym r.old ∙ s.old in absurd (cc)
parted d e f (inl r) (inr (inr (inr s))) = let same : procedure r.name r.params r.signature r.specs r.before ≡ function s.name s.params s.ins s.result s.before = sym r.old ∙ s.old in absurd (cc)
parted d e f (inr (inl r)) (inl s) = let same : implementation r.name r.params r.signature r.before ≡ procedure s.name s.params s.signature s.specs s.before = sym r.old ∙ s.old in absurd (cc)
parted d e f (inr (inl r)) (inr (inl s)) =
    let same : implementation r.name r.params r.signature r.before ≡ implementation s.name s.params s.signature s.before = sym r.old ∙ s.old in
    inr (inl (record { name = s.name; params = s.params; signature = s.signature; before = r.after; after = s.after; old = r.new ∙ cc same; new = s.new }))
parted d e f (inr (inl r)) (inr (inr (inl s))) = let same : implementation r.name r.params r.signature r.before ≡ axiom_of s.before = sym r.old ∙ s.old in absurd (cc)
parted d e f (inr (inl r)) (inr (inr (inr s))) = let same : implementation r.name r.params r.signature r.before ≡ function s.name s.params s.ins s.result s.before = sym r.old ∙ s.old in absurd (cc)
parted d e f (inr (inr (inl r))) (inl s) = let same : axiom_of r.before ≡ procedure s.name s.params s.signature s.specs s.before = sym r.old ∙ s.old in absurd (cc)
parted d e f (inr (inr (inl r))) (inr (inl s)) = let same : axiom_of r.before ≡ implementation s.name s.params s.signature s.before = sym r.old ∙ s.old in absurd (cc)
parted d e f (inr (inr (inl r))) (inr (inr (inl s))) = inr (inr (inl (record { before = r.after; after = s.after; old = r.new; new = s.new })))
parted d e f (inr (inr (inl r))) (inr (inr (inr s))) = let same : axiom_of r.before ≡ function s.name s.params s.ins s.result s.before = sym r.old ∙ s.old in absurd (cc)
parted d e f (inr (inr (inr r))) (inl s) = let same : function r.name r.params r.ins r.result r.before ≡ procedure s.name s.params s.signature s.specs s.before = sym r.old ∙ s.old in absurd (cc)
parted d e f (inr (inr (inr r))) (inr (inl s)) = let same : function r.name r.params r.ins r.result r.before ≡ implementation s.name s.params s.signature s.before = sym r.old ∙ s.old in absurd (cc)
parted d e f (inr (inr (inr r))) (inr (inr (inl s))) = let same : function r.name r.params r.ins r.result r.before ≡ axiom_of s.before = sym r.old ∙ s.old in absurd (cc)
parted d e f (inr (inr (inr r))) (inr (inr (inr s))) =
    let same : function r.name r.params r.ins r.result r.before ≡ function s.name s.params s.ins s.result s.before = sym r.old ∙ s.old in
    let ins : r.ins ≡ s.ins = cc same in
    let before : r.before ≡ s.before = cc same in
    inr (inr (inr (record {
      name = s.name;
      params = s.params;
      ins = s.ins;
      result = s.result;
      before = r.after;
      after = s.after;
      same = record {
        applied = s.same.applied ∙ (sym (λ i. value_applies (ins i) (before i)) ∙ (sym r.same.applied ∙ (λ i. value_applies (ins i) r.after)));
        quantified = s.same.quantified ∙ (sym (ap value_quantified before) ∙ sym r.same.quantified);
      };
      old = r.new ∙ cc same;
      new = s.new;
    })))

-- ---- implementations

pub same_implementation : (n : Text) (xs : List Decl) (i : ℕ) (x y : Decl) → slice_get xs i ≡ Some x → implements n y.body ≡ implements n x.body → implementation_of (set xs i y) n ≡ implementation_of xs n
same_implementation n [] i x y g e = refl
same_implementation n (z ∷ xs) zero x y g e = let s : z ≡ x = cc in λ k. or_else ((e ∙ ap (λ (w : Decl). implements n w.body) (sym s)) k) (implementation_of xs n)
same_implementation n (z ∷ xs) (suc i) x y g e = ap (or_else (implements n z.body)) (same_implementation n xs i x y g e)

pub gives_none : (n : Text) (d : DeclBody) → gives_body n d ≡ false → implements n d ≡ None
gives_none n (implementation m ps g b) h = ap (λ r. elim r [ true ↦ Some (g, b) | false ↦ None ]) h
gives_none n (procedure m ps g ss b) h = refl
gives_none n (constant u ns s) h = refl
gives_none n (function m ps ins r x) h = refl
gives_none n (axiom_of x) h = refl
gives_none n (variables gs) h = refl
gives_none n (synonym m s) h = refl

pub none_implements : (n : Text) (ds : List Decl) → any_decl (gives_body n) ds ≡ false → implementation_of ds n ≡ None
none_implements n [] h = refl
none_implements n (d ∷ ds) h =
    let p = neither (gives_body n d.body) (any_decl (gives_body n) ds) h in
    (λ i. or_else (gives_none n d.body p.0 i) (implementation_of ds n)) ∙ none_implements n ds p.1

pub same_procs : (ds es : List Decl) → ((n : Text) → implementation_of ds n ≡ implementation_of es n) → (t : Table) (c : Counts) (b : DeclBody) → procs_in ds t c b ≡ procs_in es t c b
same_procs ds es h t c (procedure n ps g ss b) = ap (λ w. proc_of t c n.text g ss (or_else (own_body g b) w) ∷ []) (h n.text)
same_procs ds es h t c (constant u ns s) = refl
same_procs ds es h t c (function m ps ins r x) = refl
same_procs ds es h t c (axiom_of x) = refl
same_procs ds es h t c (variables gs) = refl
same_procs ds es h t c (synonym m s) = refl
same_procs ds es h t c (implementation m ps g b) = refl

-- a body that is given alone
pub given_alone : (o b : Option Implemented) → o ≡ b → o ≡ or_else b None
given_alone o None h = h
given_alone o (Some b) h = h
