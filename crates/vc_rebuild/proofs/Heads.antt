-- The texts of a declaration in the place of others.
use Rattle.std.specs.Prelude.{◌≡◌, refl, ℕ, zero, suc, ◌<◌, nat_eq, Bool, true, false, List, [], ◌∷◌, length, slice_get, slice_index_or, Some}
use Rattle.std.proofs.Common.{ap, sym, subst, arith, ◌∙◌, get_or-set_same, get_or-set_other}
use Rattle.std.proofs.lemmas.List.{length-set}
use Rattle.std.proofs.lemmas.Bool.{eqb-true, eqb-false}
use Rattle.bpl_model.specs.Module.{Proc, DeclText, Module, with_procedure}
use Rattle.bpl_model.specs.Reach.{decl_at}
use Rattle.vc_rebuild.specs.Change.{HasHeadOf, DiffersAt}

same_head : (x : DeclText) → HasHeadOf x x
same_head x = record { name = refl; contract = refl; leads = refl; contract_leads = refl }

pub differs_at : (m : Module) (d : ℕ) (old new : DeclText) → d < length m.texts → old ≡ decl_at m d → HasHeadOf old new → (k : ℕ) (p : Proc) → DiffersAt d m (with_procedure k p d new m)
differs_at m d old new below is head k p = record {
  consts = refl;
  functions = refl;
  axioms = refl;
  texts = sym (length-set m.texts d new);
  heads = λ e. by e (nat_eq e d) refl;
  others = λ e apart. ap (λ (x : DeclText). x.text) (sym (other e apart));
}
  where
    other : (e : ℕ) → nat_eq e d ≡ false → decl_at (with_procedure k p d new m) e ≡ decl_at m e
    other e apart = get_or-set_other m.texts d e new _ (eqb-false e d apart)

    by : (e : ℕ) (s : Bool) → nat_eq e d ≡ s → HasHeadOf (decl_at m e) (decl_at (with_procedure k p d new m) e)
    by e true q =
        let here : e ≡ d = eqb-true e d q in
        let after : decl_at (with_procedure k p d new m) e ≡ new = ap (decl_at (with_procedure k p d new m)) here ∙ get_or-set_same m.texts d new _ below in
        subst (λ x. HasHeadOf x (decl_at (with_procedure k p d new m) e)) (is ∙ ap (decl_at m) (sym here)) (subst (HasHeadOf old) (sym after) head)
    by e false q = subst (HasHeadOf (decl_at m e)) (sym (other e q)) (same_head (decl_at m e))

got : (ts : List DeclText) (d : ℕ) (x e : DeclText) → Some x ≡ slice_get ts d → (d < length ts) × (x ≡ slice_index_or ts d e)
got [] d x e h = absurd (cc)
got (t ∷ ts) zero x e h = let same : x ≡ t = cc in (omega arith, same)
got (t ∷ ts) (suc d) x e h = let r = got ts d x e h in (omega (r.0, arith), r.1)

-- of the texts that stand there
pub differs_got : (m : Module) (d : ℕ) (ts : List DeclText) (old new : DeclText) → ts ≡ m.texts → Some old ≡ slice_get ts d → HasHeadOf old new → (k : ℕ) (p : Proc) → DiffersAt d m (with_procedure k p d new m)
differs_got m d ts old new same found head k p =
    let r = got m.texts d old (record { name = []; text = []; contract = []; leads = []; contract_leads = [] }) (found ∙ ap (λ xs. slice_get xs d) same) in
    differs_at m d old new r.0 r.1 head k p
