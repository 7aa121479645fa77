-- Whether one declaration is a revision of another, by what stands before their clauses and bodies.
use Rattle.std.proofs.Common.{◌≡◌, sym, ap, ◌∙◌, subst, ◌⊎◌, inl, inr, Bool, true, false, IsTrue, List, Option}
use Rattle.std.specs.Prelude.{is_some}
use Rattle.std.proofs.lemmas.Bool.{false≢true}
use Rattle.bpl_ast.specs.Place.{Name, Params, Ty}
use Rattle.bpl_ast.specs.Tree.{Expr}
use Rattle.bpl_ast.specs.Statement.{Argument, DeclBody, Signature, Spec, axiom_of, function, procedure, implementation}
use Rattle.body_revision.specs.Revised.{names_modified, HasParts, IsImplementation, IsOtherImplementation, IsOtherAxiom, HasValue, ApplyTheSame, IsOtherFunction, IsRevised}
use Rattle.body_revision.specs.Procedures.{is_procedure, is_implementation, declares_function}

-- two procedures are alike but for clauses and bodies
abbrev pub AreAlike : Name → Name → Option Params → Option Params → Signature → Signature → List Spec → List Spec → Bool → Bool → Type 0
AreAlike n m ps qs g h ss zs a b = (names_modified zs ≡ names_modified ss) × ((n ≡ m) × ((ps ≡ qs) × ((g ≡ h) × (a ≡ b))))

module _ (d e : DeclBody) (n m : Name) (ps qs : Option Params) (g h : Signature) where
  module _ (ss zs : List Spec) (a b : Bool) (p : HasParts d n ps g ss a) (q : HasParts e m qs h zs b) where
    pub alike_revised : AreAlike n m ps qs g h ss zs a b → IsRevised d e
    alike_revised s = inl (record {
      name = n;
      params = ps;
      signature = g;
      specs = ss;
      new_specs = zs;
      before = p.body;
      after = q.body;
      modified = s.0;
      bodies = sym q.told ∙ sym s.1.1.1.1 ∙ p.told;
      old = p.is;
      new = q.is ∙ (λ i. procedure (sym s.1.0 i) (sym s.1.1.0 i) (sym s.1.1.1.0 i) zs q.body);
    })

    pub revised_alike : IsRevised d e → AreAlike n m ps qs g h ss zs a b
    revised_alike (inl r) =
        let x : procedure n ps g ss p.body ≡ procedure r.name r.params r.signature r.specs r.before = sym p.is ∙ r.old in
        let y : procedure m qs h zs q.body ≡ procedure r.name r.params r.signature r.new_specs r.after = sym q.is ∙ r.new in
        let specs : ss ≡ r.specs = cc x in
        let new_specs : zs ≡ r.new_specs = cc y in
        let before : p.body ≡ r.before = cc x in
        let after : q.body ≡ r.after = cc y in
        (ap names_modified new_specs ∙ r.modified ∙ sym (ap names_modified specs), (cc (x, y), (cc (x, y), (cc (x, y), p.told ∙ ap is_some before ∙ sym r.bodies ∙ sym (ap is_some after) ∙ sym q.told))))
    revised_alike (inr (inl r)) = let x : procedure n ps g ss p.body ≡ implementation r.name r.params r.signature r.before = sym p.is ∙ r.old in absurd (cc)
    revised_alike (inr (inr (inl r))) = let x : procedure n ps g ss p.body ≡ axiom_of r.before = sym p.is ∙ r.old in absurd (cc)
    revised_alike (inr (inr (inr r))) = let x : procedure n ps g ss p.body ≡ function r.name r.params r.ins r.result r.before = sym p.is ∙ r.old in absurd (cc)

  module _ (p : IsImplementation d n ps g) (q : IsImplementation e m qs h) where
    pub alike_implements : (n ≡ m) × ((ps ≡ qs) × (g ≡ h)) → IsOtherImplementation d e
    alike_implements s = record {
      name = n;
      params = ps;
      signature = g;
      before = p.body;
      after = q.body;
      old = p.is;
      new = q.is ∙ (λ i. implementation (sym s.0 i) (sym s.1.0 i) (sym s.1.1 i) q.body);
    }

    pub implements_alike : IsOtherImplementation d e → (n ≡ m) × ((ps ≡ qs) × (g ≡ h))
    implements_alike r =
        let x : implementation n ps g p.body ≡ implementation r.name r.params r.signature r.before = sym p.is ∙ r.old in
        let y : implementation m qs h q.body ≡ implementation r.name r.params r.signature r.after = sym q.is ∙ r.new in
        (cc (x, y), (cc (x, y), cc (x, y)))

-- what is no procedure is revised as an implementation, an axiom or a function, and what is one not by what is none
pub no_procedure : (d e : DeclBody) → is_procedure d ≡ false → IsRevised d e → IsOtherImplementation d e ⊎ (IsOtherAxiom d e ⊎ IsOtherFunction d e)
no_procedure d e h (inl r) = absurd (false≢true (sym h ∙ ap is_procedure r.old))
no_procedure d e h (inr r) = r

pub no_procedure_new : (d e : DeclBody) → is_procedure d ≡ true → is_procedure e ≡ false → IsRevised d e → ⊥
no_procedure_new d e h k (inl r) = false≢true (sym k ∙ ap is_procedure r.new)
no_procedure_new d e h k (inr (inl r)) = false≢true (sym (ap is_procedure r.old) ∙ h)
no_procedure_new d e h k (inr (inr (inl r))) = false≢true (sym (ap is_procedure r.old) ∙ h)
no_procedure_new d e h k (inr (inr (inr r))) = false≢true (sym (ap is_procedure r.old) ∙ h)

pub no_implementation : (d e : DeclBody) → is_implementation d ≡ false → IsOtherImplementation d e → ⊥
no_implementation d e h r = false≢true (sym h ∙ ap is_implementation r.old)

pub no_implementation_new : (d e : DeclBody) → is_implementation e ≡ false → IsOtherImplementation d e → ⊥
no_implementation_new d e h r = false≢true (sym h ∙ ap is_implementation r.new)

-- ---- functions

module _ (d e : DeclBody) (n m : Name) (ps qs : Option Params) (vs ws : List Argument) (r s : Ty) (x y : Option Expr) (p : HasValue d n ps vs r x) (q : HasValue e m qs ws s y) where
  pub alike_function : (n ≡ m) × ((ps ≡ qs) × ((vs ≡ ws) × (r ≡ s))) → ApplyTheSame vs x y → IsOtherFunction d e
  alike_function h same = record {
    name = n;
    params = ps;
    ins = vs;
    result = r;
    before = x;
    after = y;
    same = same;
    old = p.is;
    new = q.is ∙ (λ i. function (sym h.0 i) (sym h.1.0 i) (sym h.1.1.0 i) (sym h.1.1.1 i) y);
  }

  pub function_alike : IsOtherFunction d e → ((n ≡ m) × ((ps ≡ qs) × ((vs ≡ ws) × (r ≡ s)))) × ApplyTheSame vs x y
  function_alike f =
      let o : function f.name f.params f.ins f.result f.before ≡ function n ps vs r x = sym f.old ∙ p.is in
      let w : function f.name f.params f.ins f.result f.after ≡ function m qs ws s y = sym f.new ∙ q.is in
      let ins : f.ins ≡ vs = cc o in
      let before : f.before ≡ x = cc o in
      let after : f.after ≡ y = cc w in
      ((cc (o, w), (cc (o, w), (cc (o, w), cc (o, w)))), subst (λ (a : List Argument). ApplyTheSame a x y) ins (subst (λ b. ApplyTheSame f.ins b y) before (subst (ApplyTheSame f.ins f.before) after f.same)))

pub no_value : (d e : DeclBody) → declares_function d ≡ false → IsOtherFunction d e → ⊥
no_value d e h r = false≢true (sym h ∙ ap declares_function r.old)

pub no_value_new : (d e : DeclBody) → declares_function e ≡ false → IsOtherFunction d e → ⊥
no_value_new d e h r = false≢true (sym h ∙ ap declares_function r.new)

-- ---- one of two ways

pub one_of_both : {A B : Type 0} (a b : Bool) → a ≡ false → (A → IsTrue a) → (B → IsTrue b) → A ⊎ B → IsTrue b
one_of_both a b no_a told other (inl x) = absurd (false≢true (sym no_a ∙ told x))
one_of_both a b no_a told other (inr y) = other y
