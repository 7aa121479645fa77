-- New variables, one after another.
use Rattle.std.specs.Prelude.{◌≡◌, ℕ, ◌+◌, ◌<◌, ◌≤◌, List, [], ◌∷◌, ◌++◌, length}
use Rattle.std.proofs.Common.{◌∙◌, sym, ap, drop, append-nil}
use Rattle.std.proofs.lemmas.List.{append_assoc, at_drop_more, at_drop_all}
use Rattle.logic_core.specs.Tree.{Kind, int, Tree, free}
use Rattle.proof_core.specs.Context.{variables_from}

-- one new variable more
pub variables_more : (ks : List Kind) (i n : ℕ) (vs more whole : List Tree) → i < length ks → more ≡ vs ++ free n ∷ [] → vs ++ variables_from n (drop i ks) ≡ whole → more ++ variables_from (n + 1) (drop (i + 1) ks) ≡ whole
variables_more ks i n vs more whole within pushed so_far =
    ap (λ xs. xs ++ variables_from (n + 1) (drop (i + 1) ks)) pushed
    ∙ append_assoc vs (free n ∷ []) (variables_from (n + 1) (drop (i + 1) ks))
    ∙ sym (at_drop_more (λ ys. vs ++ variables_from n ys) ks i int within)
    ∙ so_far

pub variables_end : (ks : List Kind) (i n : ℕ) (vs whole : List Tree) → length ks ≤ i → vs ++ variables_from n (drop i ks) ≡ whole → vs ≡ whole
variables_end ks i n vs whole past so_far = sym (append-nil vs) ∙ sym (at_drop_all (λ ys. vs ++ variables_from n ys) ks i past) ∙ so_far
