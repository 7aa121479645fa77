-- The rule instantiate: of the first ForAll, trigger and tuple without a mark the instance is added and the mark made.
use Rattle.std.specs.Prelude.{Bool, true, false, not, ◌&&◌, Option, Some, None, option_to_list, List, [], ◌∷◌, ◌++◌, map, flat_map, filter, find}
use Rattle.std.specs.List.{list_any}
use Rattle.logic_core.specs.Tree.{Kind, Tree, Trees, for_all, Patterns, no_patterns, pattern}
use Rattle.logic_core.specs.Def.{Def}
use Rattle.logic_core.specs.Wide.{◌>>=◌}
use Rattle.logic_core.specs.Same.{same_term, same_trees}
use Rattle.logic_core.specs.View.{trees_of}
use Rattle.logic_core.specs.Substitute.{substitute}
use Rattle.logic_core.specs.Subterm.{outside}
use Rattle.quantifier_triggers.specs.Match.{tuples}
use Rattle.proof_core.specs.Proof.{by_instantiate}
use Rattle.tableau_branch.specs.Branch.{Fact, Mark, Branch, normal_in, Attempt, none, unless_wide}
use Rattle.tableau_branch.specs.Change.{begun, appended_one, added}
use Rattle.tableau_branch.specs.Oriented.{is_application}
use Rattle.tableau_branch.specs.Move.{Move, on_one}

-- the terms of a list, each once
abbrev pub each_once : List Tree → List Tree → List Tree
each_once seen [] = seen
each_once seen (t ∷ ts) = elim (list_any (same_term t) seen) [ true ↦ each_once seen ts | false ↦ each_once (seen ++ t ∷ []) ts ]

abbrev pub applications_in : Fact → List Tree
applications_in f = filter is_application (outside f.term)

-- the Read and Call terms of the facts outside quantifiers, oldest fact first, in preorder, then the seen calls, each once
abbrev pub ground_terms : Branch → List Tree
ground_terms b = each_once [] (flat_map applications_in b.facts ++ b.calls)

-- a ForAll: the sorts of its variables, its triggers and its body
pub record Quantified : Type 0 where
  pub sorts : List Kind
  pub triggers : Patterns
  pub body : Tree

abbrev pub as_for_all : Tree → Option Quantified
as_for_all (for_all ss ps t) = Some (record { sorts = ss; triggers = ps; body = t })
as_for_all t = None

-- a fact that is a ForAll, its body, and a tuple of one of its triggers
pub record Candidate : Type 0 where
  pub fact : Fact
  pub body : Tree
  pub tuple : List Tree

abbrev pub mark_of : Candidate → Mark
mark_of c = record { fact = (c.fact).term; tuple = c.tuple }

abbrev pub with_mark : Mark → Branch → Branch
with_mark m b = record b { marks = b.marks ++ m ∷ [] }

abbrev pub same_mark : Mark → Mark → Bool
same_mark m n = same_term m.fact n.fact && same_trees (trees_of m.tuple) (trees_of n.tuple)

abbrev pub is_unmarked : Branch → Candidate → Bool
is_unmarked b c = not (list_any (λ m. same_mark m (mark_of c)) b.marks)

module _ (defs : List Def) where
  -- the tuples of one trigger of a ForAll, in order
  abbrev pub candidates_at : Branch → List Tree → Fact → List Kind → Tree → Trees → List Candidate
  candidates_at b terms f ss body ps = map (λ ts. record { fact = f; body = body; tuple = ts }) (tuples b.vars defs ps ss terms)

  -- the triggers in order
  abbrev pub candidates_by : Branch → List Tree → Fact → Quantified → Patterns → List Candidate
  candidates_by b terms f q no_patterns = []
  candidates_by b terms f q (pattern ps rest) = candidates_at b terms f q.sorts q.body ps ++ candidates_by b terms f q rest

  abbrev pub candidates_of : Branch → List Tree → Fact → List Candidate
  candidates_of b terms f = flat_map (λ q. candidates_by b terms f q q.triggers) (option_to_list (as_for_all f.term))

  abbrev pub candidates : Branch → List Candidate
  candidates b = let terms = ground_terms b in flat_map (candidates_of b terms) b.facts

  -- the instance is added and the mark made
  abbrev pub instantiated_by : Branch → Candidate → Option Move
  instantiated_by b c = normal_in defs b (substitute c.body c.tuple) >>= λ t.
      let p = appended_one (by_instantiate (c.fact).number c.tuple ∷ []) t (begun (with_mark (mark_of c) b)) in Some (on_one (added p.0 p.1))

  abbrev pub instantiate : Branch → Attempt Move
  instantiate b = elim (find (is_unmarked b) (candidates b)) [ None ↦ none | Some c ↦ unless_wide (instantiated_by b c) ]
