-- Definitions with the same parameters and sorts have equal heads.
use Rattle.std.proofs.Common.{◌≡◌, refl, true, List, [], ◌∷◌, map}
use Rattle.logic_core.specs.Def.{Def}
use Rattle.logic_core.specs.Same.{same_kind, same_kinds}
use Rattle.logic_core.proofs.Booleans.{both_true}
use Rattle.logic_core.proofs.SameTerm.{same_sort}
use Rattle.numbered_facts.specs.Alike.{head_of}
use Rattle.numbered_facts.specs.Heads.{same_head, same_heads}
use Rattle.numbered_facts.proofs.SameSorts.{same_sorts}

head_equal : (d e : Def) → same_head d e ≡ true → head_of d ≡ head_of e
head_equal d e h = let p = both_true (same_kind d.sort e.sort) (same_kinds d.params e.params) h in λ i. (same_sorts d.params e.params p.1 i, same_sort d.sort e.sort p.0 i)

pub heads_equal : (ds es : List Def) → same_heads ds es ≡ true → map head_of ds ≡ map head_of es
heads_equal [] [] h = refl
heads_equal (d ∷ ds) (e ∷ es) h = let p = both_true (same_head d e) (same_heads ds es) h in λ i. head_equal d e p.0 i ∷ heads_equal ds es p.1 i
heads_equal ds es h = absurd (cc)
