-- Sizes of terms with three parts, by those of the parts.
use Rattle.std.proofs.Common.{◌≡◌, refl, sym, ◌∙◌, ap, ℕ, ◌+◌, Some, arith}
use Rattle.logic_core.specs.Size.{capped}
use Rattle.logic_terms.specs.Tree.{Tree, write, choose, nodes}
use Rattle.logic_terms.specs.Variant.{as_three}

same_sizes : (a b c d e f : Tree) → a ≡ d → b ≡ e → c ≡ f → nodes d + nodes e + nodes f + 1 ≡ nodes a + nodes b + nodes c + 1
same_sizes a b c d e f h i j = cc (h, i, j)

pub three_nodes : (y a b c : Tree) → Some (a, b, c) ≡ as_three y → nodes y ≡ nodes a + nodes b + nodes c + 1
three_nodes (write d e f) a b c h = let q : (a, b, c) ≡ (d, e, f) = cc h in same_sizes a b c d e f (ap (λ (p : Tree × Tree × Tree). p.0) q) (ap (λ (p : Tree × Tree × Tree). p.1) q) (ap (λ (p : Tree × Tree × Tree). p.2) q)
three_nodes (choose d e f) a b c h = let q : (a, b, c) ≡ (d, e, f) = cc h in same_sizes a b c d e f (ap (λ (p : Tree × Tree × Tree). p.0) q) (ap (λ (p : Tree × Tree × Tree). p.1) q) (ap (λ (p : Tree × Tree × Tree). p.2) q)
three_nodes y a b c h = absurd (cc)

three_capped : (i j k : ℕ) → capped (capped (capped i + capped (capped j + capped k)) + 1) ≡ capped (i + j + k + 1)
three_capped i j k = omega arith

pub three_sizes : (y a b c : Tree) (s t u v w x : ℕ) → Some (a, b, c) ≡ as_three y
    → s ≡ capped (nodes a) → t ≡ capped (nodes b) → u ≡ capped (nodes c) → v ≡ capped (t + u) → w ≡ capped (s + v) → x ≡ capped (w + 1) → x ≡ capped (nodes y)
three_sizes y a b c s t u v w x h is_s is_t is_u is_v is_w is_x =
    is_x ∙ ap (λ n. capped (n + 1)) (is_w ∙ cc) ∙ three_capped (nodes a) (nodes b) (nodes c) ∙ ap capped (sym (three_nodes y a b c h))
