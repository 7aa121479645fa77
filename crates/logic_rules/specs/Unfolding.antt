-- The rule unfold: the fact with a Call outside quantifiers is changed; a plain function's Call joins the seen calls.
use Rattle.std.specs.Prelude.{Bool, not, Option, Some, None, List, [], ◌∷◌, ◌++◌, find, slice_get, if◌then◌else◌}
use Rattle.logic_core.specs.Tree.{Tree, call}
use Rattle.logic_core.specs.Def.{Def}
use Rattle.logic_core.specs.Wide.{◌>>=◌}
use Rattle.logic_core.specs.Same.{is_some_and}
use Rattle.logic_core.specs.Subterm.{outside, replaced}
use Rattle.proof_core.specs.Proof.{by_unfold}
use Rattle.proof_core.specs.Replace.{body_of}
use Rattle.tableau_branch.specs.Branch.{Fact, Branch, normal_in, Attempt, none, unless_wide, At, oldest}
use Rattle.tableau_branch.specs.Change.{begun, appended_one, changed_at}
use Rattle.tableau_branch.specs.Move.{Move, on_one}
use Rattle.tableau_branch.specs.Shapes.{is_call}

-- the first Call outside quantifiers, in preorder
abbrev pub first_call : Fact → Option Tree
first_call f = find is_call (outside f.term)

-- one seen call more
abbrev pub with_seen : Tree → Branch → Branch
with_seen t b = record b { calls = b.calls ++ t ∷ [] }

module _ (defs : List Def) where
  -- the definition that a Call applies
  abbrev pub applied_by : Tree → Option Def
  applied_by (call f ts) = slice_get defs f
  applied_by t = None

  abbrev pub is_plain : Tree → Bool
  is_plain t = is_some_and (applied_by t) (λ d. not d.logical)

  -- a plain function's Call joins the seen calls
  abbrev pub with_call : Tree → Branch → Branch
  with_call t b = if is_plain t then with_seen t b else b

  -- the formula with the call replaced by the definition's body, in normal form
  abbrev pub unfolded_form : Branch → Tree → Tree → Option Tree
  unfolded_form b f t = body_of defs t >>= λ u. normal_in defs b (replaced t u f)

  abbrev pub unfolded_at : Branch → At Tree → Option Move
  unfolded_at b a = body_of defs a.what >>= λ u. normal_in defs b (replaced a.what u (a.fact).term) >>= λ t.
      let p = appended_one (by_unfold (a.fact).number a.what ∷ []) t (begun (with_call a.what b)) in Some (on_one (changed_at a.at p.0 p.1))

  -- the first call of the oldest fact with one: the fact is changed
  abbrev pub unfold_call : Branch → Attempt Move
  unfold_call b = elim (oldest first_call b) [ None ↦ none | Some a ↦ unless_wide (unfolded_at b a) ]
