-- The terms of a list of trees, bodies of definitions, and new variables.
use Rattle.std.specs.Prelude.{◌≡◌, refl, ℕ, ◌+◌, ◌<◌, ◌≤◌, Some, None, List, [], ◌∷◌, ◌++◌, length, slice_get}
use Rattle.std.proofs.Common.{◌∙◌, sym, ap, drop, append-nil}
use Rattle.std.proofs.lemmas.List.{append_assoc, at_drop_more, at_drop_all}
use Rattle.logic_core.specs.Tree.{Kind, int, Tree, free, call}
use Rattle.logic_core.specs.Def.{Def}
use Rattle.logic_core.specs.Substitute.{substitute}
use Rattle.logic_core.specs.Subterm.{listed}
use Rattle.logic_core.specs.View.{trees_of}
use Rattle.proof_core.specs.Context.{variables_from}
use Rattle.proof_core.specs.Replace.{body_of}

pub listed_trees : (ts : List Tree) → listed (trees_of ts) ≡ ts
listed_trees [] = refl
listed_trees (t ∷ ts) = ap (λ us. t ∷ us) (listed_trees ts)

pub body_is : (defs : List Def) (n : ℕ) (ts : List Tree) (d : Def) → slice_get defs n ≡ Some d → body_of defs (call n (trees_of ts)) ≡ Some (substitute d.body ts)
body_is defs n ts d found = rw (found, listed_trees ts) refl

pub no_body : (defs : List Def) (n : ℕ) (ts : List Tree) → slice_get defs n ≡ None → body_of defs (call n (trees_of ts)) ≡ None
no_body defs n ts none = rw none refl

-- one new variable more
pub variables_more : (ks : List Kind) (i n : ℕ) (vs more whole : List Tree) → i < length ks → more ≡ vs ++ free n ∷ [] → vs ++ variables_from n (drop i ks) ≡ whole → more ++ variables_from (n + 1) (drop (i + 1) ks) ≡ whole
variables_more ks i n vs more whole within pushed so_far =
    ap (λ xs. xs ++ variables_from (n + 1) (drop (i + 1) ks)) pushed
    ∙ append_assoc vs (free n ∷ []) (variables_from (n + 1) (drop (i + 1) ks))
    ∙ sym (at_drop_more (λ ys. vs ++ variables_from n ys) ks i int within)
    ∙ so_far

pub variables_end : (ks : List Kind) (i n : ℕ) (vs whole : List Tree) → length ks ≤ i → vs ++ variables_from n (drop i ks) ≡ whole → vs ≡ whole
variables_end ks i n vs whole past so_far = sym (append-nil vs) ∙ sym (at_drop_all (λ ys. vs ++ variables_from n ys) ks i past) ∙ so_far
