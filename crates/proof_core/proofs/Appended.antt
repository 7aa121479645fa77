-- Appending formulas: facts stay formulas, and the new facts hold where the formulas do.
use Rattle.std.proofs.Common.{◌≡◌, ◌∙◌, refl, subst, ℕ, IsTrue, Some, List, [], ◌∷◌}
use Rattle.std.specs.Prelude.{All, slice_get}
use Rattle.std.proofs.lemmas.List.Elements.{All-nil, All-cons, All-head, All-tail, All-push}
use Rattle.std.proofs.lemmas.Option.{slice_get_within, get_or_from_slice_get}
use Rattle.logic_core.specs.Tree.{boolean, Tree}
use Rattle.logic_core.specs.Value.{Value, are_of}
use Rattle.logic_core.specs.Def.{Def}
use Rattle.logic_core.specs.Wide.{◌>>=◌}
use Rattle.logic_core.specs.Normal.{normal}
use Rattle.proof_core.specs.Context.{Context, with_fact, appended, appended_each, children}
use Rattle.proof_core.specs.Soundness.{IsSorted, IsUnsatisfiable, IsRefutedBy}
use Rattle.logic_core.specs.WellSorted.{IsFormula}
use Rattle.logic_laws.proofs.Options.{bind_some}
use Rattle.proof_core.proofs.Closed.{HoldsIn, AllHold, same_holds, normal_sort, normal_value}

module _ (defs : List Def) where
  -- d has the facts of c and the formulas ts
  pub record Extends (c : Context) (ts : List Tree) (d : Context) : Type 0 where
    pub vars : c.vars ≡ d.vars
    pub sorted : IsSorted defs d
    pub hold : (frees : List Value) → IsTrue (are_of c.vars frees) → AllHold defs frees c.facts → AllHold defs frees ts → AllHold defs frees d.facts

  pub fact_extends : (c : Context) (t : Tree) → IsSorted defs c → IsFormula c.vars defs t → Extends c (t ∷ []) (with_fact c t)
  fact_extends c t s formula = record {
    vars = refl;
    sorted = record { definitions = s.definitions; facts = All-push (IsFormula c.vars defs) c.facts t s.facts formula };
    hold = λ frees fit all new. All-push (HoldsIn defs frees) c.facts t all (All-head (HoldsIn defs frees) t [] new);
  }

  pub appended_extends : (c d : Context) (t : Tree) → IsSorted defs c → IsFormula c.vars defs t → appended defs c t ≡ Some d → Extends c (t ∷ []) d
  appended_extends c d t s formula e =
      let p = bind_some (normal c.vars defs [] t) (λ u. Some (with_fact c u)) d e in
      let is_d : with_fact c p.0 ≡ d = cc in
      subst (λ x. Extends c (t ∷ []) x) is_d (record {
        vars = refl;
        sorted = record { definitions = s.definitions; facts = All-push (IsFormula c.vars defs) c.facts p.0 s.facts (normal_sort c.vars defs s.definitions t p.0 boolean formula p.1) };
        hold = λ frees fit all new. All-push (HoldsIn defs frees) c.facts p.0 all ((same_holds defs frees t p.0 (normal_value c.vars defs s.definitions frees fit t p.0 boolean formula p.1)).0 (All-head (HoldsIn defs frees) t [] new));
      })

  pub each_extends : (ts : List Tree) (c d : Context) → IsSorted defs c → All (IsFormula c.vars defs) ts → appended_each defs c ts ≡ Some d → Extends c ts d
  each_extends [] c d s formulas e = let is_d : c ≡ d = cc in subst (λ x. Extends c [] x) is_d (record { vars = refl; sorted = s; hold = λ frees fit all new. all })
  each_extends (t ∷ ts) c d s formulas e =
      let p = bind_some (appended defs c t) (λ m. appended_each defs m ts) d e in
      let one = appended_extends c p.0 t s (All-head (IsFormula c.vars defs) t ts formulas) p.1 in
      let rest = each_extends ts p.0 d one.sorted (subst (λ vs. All (IsFormula vs defs) ts) one.vars (All-tail (IsFormula c.vars defs) t ts formulas)) p.2 in
      record {
        vars = one.vars ∙ rest.vars;
        sorted = rest.sorted;
        hold = λ frees fit all new. rest.hold frees (subst (λ vs. IsTrue (are_of vs frees)) one.vars fit)
            (one.hold frees fit all (All-cons (HoldsIn defs frees) t [] (All-head (HoldsIn defs frees) t ts new) (All-nil (HoldsIn defs frees)))) (All-tail (HoldsIn defs frees) t ts new);
      }

  -- where the facts can't hold with the formulas, the formulas don't hold beside the facts
  pub refuted : (c : Context) (ts : List Tree) (d : Context) → Extends c ts d → IsUnsatisfiable defs d → (frees : List Value) → IsTrue (are_of c.vars frees) → AllHold defs frees c.facts → ¬ AllHold defs frees ts
  refuted c ts d x unsat frees fit all new = unsat frees (subst (λ vs. IsTrue (are_of vs frees)) x.vars fit) (x.hold frees fit all new)

  -- formulas that follow from the facts
  pub followed : (c : Context) (ts : List Tree) (d : Context) → Extends c ts d → ((frees : List Value) → IsTrue (are_of c.vars frees) → AllHold defs frees c.facts → AllHold defs frees ts) → IsSorted defs d × (IsUnsatisfiable defs d → IsUnsatisfiable defs c)
  followed c ts d x follow = (x.sorted, λ unsat frees fit all. refuted c ts d x unsat frees fit all (follow frees fit all))

  -- one formula that follows from the facts
  pub one_followed : (c d : Context) (t : Tree) → Extends c (t ∷ []) d → ((frees : List Value) → IsTrue (are_of c.vars frees) → AllHold defs frees c.facts → HoldsIn defs frees t) → IsSorted defs d × (IsUnsatisfiable defs d → IsUnsatisfiable defs c)
  one_followed c d t x follow = followed c (t ∷ []) d x (λ frees fit all. All-cons (HoldsIn defs frees) t [] (follow frees fit all) (All-nil (HoldsIn defs frees)))

  -- a fact that follows from the facts, as it stands
  pub fact_followed : (c d : Context) (t : Tree) → IsSorted defs c → IsFormula c.vars defs t → with_fact c t ≡ d → ((frees : List Value) → IsTrue (are_of c.vars frees) → AllHold defs frees c.facts → HoldsIn defs frees t) → IsSorted defs d × (IsUnsatisfiable defs d → IsUnsatisfiable defs c)
  fact_followed c d t s formula e follow = one_followed c d t (subst (Extends c (t ∷ [])) e (fact_extends c t s formula)) follow

  -- the facts of the children are formulas, and where they are refuted, none of these formulas holds beside the facts
  abbrev pub AreChildren : Context → List Tree → List Context → Type 0
  AreChildren c ts ds = All (IsSorted defs) ds × (All (IsUnsatisfiable defs) ds → (frees : List Value) → IsTrue (are_of c.vars frees) → AllHold defs frees c.facts → All (λ t. ¬ HoldsIn defs frees t) ts)

  pub one_more_child : (c d : Context) (t : Tree) (ts : List Tree) (ds : List Context) → Extends c (t ∷ []) d → AreChildren c ts ds → AreChildren c (t ∷ ts) (d ∷ ds)
  one_more_child c d t ts ds x rest = (
    All-cons (IsSorted defs) d ds x.sorted rest.0,
    λ unsat frees fit all. All-cons (λ u. ¬ HoldsIn defs frees u) t ts
        (λ h. refuted c (t ∷ []) d x (All-head (IsUnsatisfiable defs) d ds unsat) frees fit all (All-cons (HoldsIn defs frees) t [] h (All-nil (HoldsIn defs frees))))
        (rest.1 (All-tail (IsUnsatisfiable defs) d ds unsat) frees fit all),
  )

  -- a child for each of these formulas
  pub children_extend : (ts : List Tree) (c : Context) (ds : List Context) → IsSorted defs c → All (IsFormula c.vars defs) ts → children defs c ts ≡ Some ds → AreChildren c ts ds
  children_extend [] c ds s formulas e = let none : [] ≡ ds = cc in (subst (All (IsSorted defs)) none (All-nil (IsSorted defs)), λ unsat frees fit all. All-nil (λ t. ¬ HoldsIn defs frees t))
  children_extend (t ∷ ts) c ds s formulas e =
      let p = bind_some (appended defs c t) (λ d. children defs c ts >>= λ rest. Some (d ∷ rest)) ds e in
      let q = bind_some (children defs c ts) (λ rest. Some (p.0 ∷ rest)) ds p.2 in
      let is_ds : p.0 ∷ q.0 ≡ ds = cc in
      let first = appended_extends c p.0 t s (All-head (IsFormula c.vars defs) t ts formulas) p.1 in
      subst (AreChildren c (t ∷ ts)) is_ds (one_more_child c p.0 t ts q.0 first (children_extend ts c q.0 s (All-tail (IsFormula c.vars defs) t ts formulas) q.1))

  -- of two or three children the facts of one have to hold
  pub two_children : (c d e : Context) (ts us : List Tree) → Extends c ts d → Extends c us e
      → ((frees : List Value) → IsTrue (are_of c.vars frees) → AllHold defs frees c.facts → ¬ AllHold defs frees ts → ¬ AllHold defs frees us → ⊥) → IsRefutedBy defs c (d ∷ e ∷ [])
  two_children c d e ts us x y never = (
    All-cons (IsSorted defs) d (e ∷ []) x.sorted (All-cons (IsSorted defs) e [] y.sorted (All-nil (IsSorted defs))),
    λ unsat frees fit all. let rest = All-tail (IsUnsatisfiable defs) d (e ∷ []) unsat in
        never frees fit all (refuted c ts d x (All-head (IsUnsatisfiable defs) d (e ∷ []) unsat) frees fit all) (refuted c us e y (All-head (IsUnsatisfiable defs) e [] rest) frees fit all),
  )

  pub three_children : (c d e g : Context) (ts us ws : List Tree) → Extends c ts d → Extends c us e → Extends c ws g
      → ((frees : List Value) → IsTrue (are_of c.vars frees) → AllHold defs frees c.facts → ¬ AllHold defs frees ts → ¬ AllHold defs frees us → ¬ AllHold defs frees ws → ⊥) → IsRefutedBy defs c (d ∷ e ∷ g ∷ [])
  three_children c d e g ts us ws x y z never = (
    All-cons (IsSorted defs) d (e ∷ g ∷ []) x.sorted (All-cons (IsSorted defs) e (g ∷ []) y.sorted (All-cons (IsSorted defs) g [] z.sorted (All-nil (IsSorted defs)))),
    λ unsat frees fit all.
        let rest = All-tail (IsUnsatisfiable defs) d (e ∷ g ∷ []) unsat in
        let last = All-tail (IsUnsatisfiable defs) e (g ∷ []) rest in
        never frees fit all (refuted c ts d x (All-head (IsUnsatisfiable defs) d (e ∷ g ∷ []) unsat) frees fit all) (refuted c us e y (All-head (IsUnsatisfiable defs) e (g ∷ []) rest) frees fit all)
        (refuted c ws g z (All-head (IsUnsatisfiable defs) g [] last) frees fit all),
  )

-- one or two of a list
pub All-one : {A : Type 0} (P : A → Type 0) (x : A) → P x → All P (x ∷ [])
All-one P x p = All-cons P x [] p (All-nil P)

pub All-two : {A : Type 0} (P : A → Type 0) (x y : A) → P x → P y → All P (x ∷ y ∷ [])
All-two P x y p q = All-cons P x (y ∷ []) p (All-one P y q)

-- what all have, the one at a number has
pub at_fact : {A : Type 0} (P : A → Type 0) (xs : List A) (k : ℕ) (x : A) → slice_get xs k ≡ Some x → All P xs → P x
at_fact P xs k x e all = subst P (get_or_from_slice_get xs k x x e) (all k x (slice_get_within xs k x e))
