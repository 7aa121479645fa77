-- The tuples of triggers, one trigger after another.
use Rattle.std.proofs.Common.{◌≡◌, sym, ap, ◌∙◌, ℕ, Vec, ◌+◌, ◌<◌, ◌≤◌, List, ◌++◌, length, drop, get_or}
use Rattle.std.specs.declared.alloc.Global.{Global}
use Rattle.std.proofs.lemmas.List.{append-nil, append_assoc, at_drop_all}
use Rattle.logic_core.specs.Tree.{Kind, Tree}
use Rattle.logic_core.specs.Def.{Def}
use Rattle.logic_core.specs.View.{trees_of, patterns_of}
use Rattle.quantifier_triggers.specs.Match.{tuples}
use Rattle.tableau_branch.proofs.Lists.{drop_item}
use Rattle.numbered_terms.specs.Lists.{terms_at, lists_at}
use Rattle.numbered_instances.specs.Instances.{tuples_by}
use Rattle.numbered_instances.specs.Passed.{FindOne}
use Rattle.numbered_instances.proofs.Passing.{same_lists, then_same, same_before}

module _ (ts : List Tree) (passed : List ℕ) (vars : List Kind) (defs : List Def) (ss : List Kind) (terms : List Tree) where
  abbrev pub ahead : List (Vec ℕ Global) → List (List Tree)
  ahead ws = tuples_by vars defs ss terms (patterns_of (lists_at ts ws))

  pub trigger_next : (ws : List (Vec ℕ Global)) (i : ℕ) (w : Vec ℕ Global) (is : List ℕ) (old new : List (Vec ℕ Global)) (whole : List (List Tree)) → i < length ws → w ≡ get_or ws i w → is ≡ w.items
      → FindOne ts passed (lists_at ts new) (lists_at ts old ++ tuples vars defs (trees_of (terms_at ts is)) ss terms) → FindOne ts passed (lists_at ts old ++ ahead (drop i ws)) whole → FindOne ts passed (lists_at ts new ++ ahead (drop (i + 1) ws)) whole
  trigger_next ws i w is old new whole l e same made so_far =
      let more = lists_at ts old ++ tuples vars defs (trees_of (terms_at ts is)) ss terms in let rest = ahead (drop (i + 1) ws) in
      then_same ts passed (lists_at ts new ++ rest) (more ++ rest) whole (same_before ts passed (lists_at ts new) more rest made)
      (then_same ts passed (more ++ rest) (lists_at ts old ++ ahead (drop i ws)) whole
      (same_lists ts passed (more ++ rest) (lists_at ts old ++ ahead (drop i ws))
      (append_assoc (lists_at ts old) (tuples vars defs (trees_of (terms_at ts is)) ss terms) rest
      ∙ ap (λ js. lists_at ts old ++ (tuples vars defs (trees_of (terms_at ts js)) ss terms ++ rest)) same
      ∙ ap (λ vs. lists_at ts old ++ ahead vs) (sym (drop_item ws i w l e)))) so_far)

  pub triggers_all : (ws : List (Vec ℕ Global)) (i : ℕ) (made : List (Vec ℕ Global)) (whole : List (List Tree)) → length ws ≤ i → FindOne ts passed (lists_at ts made ++ ahead (drop i ws)) whole → FindOne ts passed (lists_at ts made) whole
  triggers_all ws i made whole l so_far = then_same ts passed (lists_at ts made) (lists_at ts made ++ ahead (drop i ws)) whole
      (same_lists ts passed (lists_at ts made) (lists_at ts made ++ ahead (drop i ws)) (sym (append-nil (lists_at ts made)) ∙ sym (at_drop_all (λ vs. lists_at ts made ++ ahead vs) ws i l))) so_far
