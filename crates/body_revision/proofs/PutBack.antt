-- An empty module; and what stood in a module is put back.
use Rattle.std.proofs.Common.{◌≡◌, refl, sym, ap, ◌∙◌, subst, ℕ, zero, suc, ◌<◌, List, [], ◌∷◌, length, get_or, slice_get, slice_set, Some, option_map}
use Rattle.std.proofs.lemmas.List.{length-set}
use Rattle.std.proofs.lemmas.Option.{slice_get-get_or}
use Rattle.logic_core.specs.Tree.{Tree}
use Rattle.bpl_model.specs.Module.{Proc, Function, DeclText, Module, with_procedure}
use Rattle.bpl_model.specs.Typed.{IsTypedModule}
use Rattle.body_revision.specs.Revision.{with_axiom, with_value, value_at, with_function}

-- a module without any declaration
pub empty_typed : IsTypedModule (record { consts = []; axioms = []; functions = []; globals = []; procs = []; texts = [] })
empty_typed = record { functions = refl; axioms = tt; clauses = tt; procs = tt; texts = tt }

set_back : {A : Type 0} (xs : List A) (at : ℕ) (x y : A) → Some x ≡ slice_get xs at → slice_set (slice_set xs at y) at x ≡ xs
set_back [] at x y h = refl
set_back (z ∷ zs) zero x y h = let same : x ≡ z = cc in ap (λ w. w ∷ zs) same
set_back (z ∷ zs) (suc at) x y h = ap (λ ws. z ∷ ws) (set_back zs at x y h)

-- a value in a function in its place
pub value_put : (fs : List Function) (k : ℕ) (b : Tree) (f : Function) → slice_get fs k ≡ Some f → slice_set fs k (with_value b f) ≡ value_at k b fs
value_put [] k b f h = refl
value_put (g ∷ fs) zero b f h = let same : f ≡ g = cc in ap (λ x. with_value b x ∷ fs) same
value_put (g ∷ fs) (suc k) b f h = ap (λ xs. g ∷ xs) (value_put fs k b f h)

item_there : {A : Type 0} (xs : List A) (k : ℕ) (x : A) → k < length xs → x ≡ get_or xs k x → slice_get xs k ≡ Some x
item_there xs k x there is = slice_get-get_or xs k x there ∙ ap Some (sym is)

-- a value and texts in their places, and what stood there
module _ (m n : Module) (view : m ≡ n) (k at : ℕ) (b : Tree) (x y z : DeclText) (f g : Function) where
  pub function_among : k < length n.functions → at < length n.texts → f ≡ get_or m.functions k f → y ≡ get_or m.texts at y → g ≡ with_value b f → z ≡ x
      → (record m { functions = slice_set m.functions k g; texts = slice_set m.texts at z } ≡ with_function k b at x n) × (Some f.def.body ≡ option_map (λ (h : Function). h.def.body) (slice_get n.functions k)) × (Some y ≡ slice_get n.texts at)
  function_among one other function text put same =
      let here : slice_get m.functions k ≡ Some f = item_there m.functions k f (subst (λ (w : Module). k < length w.functions) (sym view) one) function in
      let there : slice_get m.texts at ≡ Some y = item_there m.texts at y (subst (λ (w : Module). at < length w.texts) (sym view) other) text in (
        (λ i. record m { functions = (ap (slice_set m.functions k) put ∙ value_put m.functions k b f here) i; texts = slice_set m.texts at (same i) }) ∙ ap (with_function k b at x) view,
        sym (ap (option_map (λ (h : Function). h.def.body)) (ap (λ (w : Module). slice_get w.functions k) (sym view) ∙ here)),
        sym (ap (λ (w : Module). slice_get w.texts at) (sym view) ∙ there),
      )

value_back : (fs : List Function) (k : ℕ) (a b : Tree) → Some a ≡ option_map (λ (f : Function). f.def.body) (slice_get fs k) → value_at k a (value_at k b fs) ≡ fs
value_back [] k a b h = refl
value_back (f ∷ fs) zero a b h = let same : a ≡ f.def.body = cc in ap (λ x. with_value x f ∷ fs) same
value_back (f ∷ fs) (suc k) a b h = ap (λ xs. f ∷ xs) (value_back fs k a b h)

as_many_values : (fs : List Function) (k : ℕ) (b : Tree) → length (value_at k b fs) ≡ length fs
as_many_values [] k b = refl
as_many_values (f ∷ fs) zero b = refl
as_many_values (f ∷ fs) (suc k) b = ap suc (as_many_values fs k b)

module _ (m n : Module) (k at : ℕ) (x y : DeclText) (text : Some y ≡ slice_get m.texts at) where
  module _ (p q : Proc) (put : n ≡ with_procedure k p at x m) (proc : Some q ≡ slice_get m.procs k) where
    pub procedure_back : with_procedure k q at y n ≡ m
    procedure_back = ap (with_procedure k q at y) put ∙ (λ i. record m { procs = set_back m.procs k q p proc i; texts = set_back m.texts at y x text i })

    -- its places are there still
    pub procedure_there : k < length m.procs → at < length m.texts → (k < length n.procs) × (at < length n.texts)
    procedure_there one other = (
      subst (λ l. k < l) (sym (ap (λ (z : Module). length z.procs) put ∙ length-set m.procs k p)) one,
      subst (λ l. at < l) (sym (ap (λ (z : Module). length z.texts) put ∙ length-set m.texts at x)) other,
    )

  module _ (f h : Tree) (put : n ≡ with_axiom k f at x m) (formula : Some h ≡ slice_get m.axioms k) where
    pub axiom_back : with_axiom k h at y n ≡ m
    axiom_back = ap (with_axiom k h at y) put ∙ (λ i. record m { axioms = set_back m.axioms k h f formula i; texts = set_back m.texts at y x text i })

    pub axiom_there : k < length m.axioms → at < length m.texts → (k < length n.axioms) × (at < length n.texts)
    axiom_there one other = (
      subst (λ l. k < l) (sym (ap (λ (z : Module). length z.axioms) put ∙ length-set m.axioms k f)) one,
      subst (λ l. at < l) (sym (ap (λ (z : Module). length z.texts) put ∙ length-set m.texts at x)) other,
    )

  module _ (a b : Tree) (put : n ≡ with_function k b at x m) (value : Some a ≡ option_map (λ (f : Function). f.def.body) (slice_get m.functions k)) where
    pub function_back : with_function k a at y n ≡ m
    function_back = ap (with_function k a at y) put ∙ (λ i. record m { functions = value_back m.functions k a b value i; texts = set_back m.texts at y x text i })

    pub function_there : k < length m.functions → at < length m.texts → (k < length n.functions) × (at < length n.texts)
    function_there one other = (
      subst (λ l. k < l) (sym (ap (λ (z : Module). length z.functions) put ∙ as_many_values m.functions k b)) one,
      subst (λ l. at < l) (sym (ap (λ (z : Module). length z.texts) put ∙ length-set m.texts at x)) other,
    )
