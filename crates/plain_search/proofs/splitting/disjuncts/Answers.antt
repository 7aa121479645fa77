use Rattle.std.proofs.Common.{◌≡◌, ◌∙◌, ap, sym, Bool, true, false, Some, List, [], ◌∷◌, length}
use Rattle.std.specs.Prelude.{option_map}
use Rattle.std.specs.Bool.{◌==◌}
use Rattle.logic_core.specs.Tree.{Tree}
use Rattle.logic_core.specs.View.{trees_of}
use Rattle.proof_core.specs.Split.{disjuncts}
use Rattle.logic_rules.proofs.Listed.{listed_trees}
use Rattle.plain_search.proofs.splitting.disjuncts.Goals as goal

has_cases : (ts : List Tree) (b : Bool) → b ≡ (length ts == 0) → b ≡ false → Some ts ≡ option_map (λ p. p.0 ∷ p.1) (disjuncts (trees_of ts))
has_cases [] b is empty = absurd (let e : true ≡ false = sym is ∙ empty in cc)
has_cases (t ∷ ts) b is empty = ap (λ us. Some (t ∷ us)) (sym (listed_trees ts))

pub returns : goal.returns
returns c = rw (c.of.ensures, c.in_ok-copy_terms.ensures) (has_cases c.args.parts.now c.is_empty.result c.is_empty.ensures c.if-is_empty.false)
