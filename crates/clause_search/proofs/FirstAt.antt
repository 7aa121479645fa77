-- The first rule of the table that can be applied to a branch of numbers, one rule on.
use Rattle.std.specs.Prelude.{◌≡◌, ℕ, ◌+◌, ◌<◌, Option, Result, Ok, Err, List, map, length, drop}
use Rattle.std.specs.Result.{IsErrAnd}
use Rattle.std.proofs.Common.{ap, sym, subst, ◌∙◌, get_or}
use Rattle.std.proofs.lemmas.List.{drop_more}
use Rattle.logic_core.specs.declared.fault.NormalFault.{NormalFault}
use Rattle.logic_core.specs.declared.fault.NormalFault.TheVariants.{Wide}
use Rattle.logic_core.specs.Tree.{Tree}
use Rattle.logic_core.specs.Def.{Def}
use Rattle.tableau_branch.specs.Branch.{Branch, Attempt, none, leaves, gives}
use Rattle.tableau_branch.specs.Move.{Move}
use Rattle.tableau.specs.Search.{first_rule}
use Rattle.numbered_branches.specs.Applied.{TriesAt, AttemptsAt}
use Rattle.numbered_branches.specs.Branches.{NumberedBranch}
use Rattle.numbered_branches.specs.Moves.{IsMoveOver, move_at}
use Rattle.numbered_branches.specs.Standing.{IsBranchAt}
use Rattle.numbered_branches.specs.View.{move_seen}
use Rattle.numbered_branches.specs.declared.played.Attempt as tried
use Rattle.numbered_branches.specs.declared.played.Attempt.TheVariants as come
use Rattle.numbered_branches.specs.declared.played.Move as made

-- the same fault is returned
pub tries_err : (ts : List Tree) (b : Branch) (r : Result tried.Attempt NormalFault) (e : NormalFault) (x : Attempt Move) → IsErrAnd r (λ d. d ≡ e) → (e ≡ Wide → x ≡ leaves) → TriesAt ts b r x
tries_err ts b (Ok a) e x h wide = absurd h
tries_err ts b (Err d) e x h wide = λ w. wide (let v : e ≡ Wide = cc in v)

pub attempts_err : (ts : List Tree) (r : Result (Option made.Move) NormalFault) (e : NormalFault) (x : Attempt Move) → IsErrAnd r (λ d. d ≡ e) → (e ≡ Wide → x ≡ leaves) → AttemptsAt ts r x
attempts_err ts (Ok a) e x h wide = absurd h
attempts_err ts (Err d) e x h wide = λ w. wide (let v : e ≡ Wide = cc in v)

-- a rule over the definitions that the store has kept
pub tried_over : (us : List Tree) (defs defs' : List Def) (same : defs ≡ defs') (does : List Def → Branch → Attempt Move) (b : Branch) (r : Result tried.Attempt NormalFault) → TriesAt us b r (does defs b) → TriesAt us b r (does defs' b)
tried_over us defs defs' same does b r h = subst (λ (ds : List Def). TriesAt us b r (does ds b)) same h

pub wide_over : (defs defs' : List Def) (same : defs ≡ defs') (does : List Def → Branch → Attempt Move) (b : Branch) → does defs b ≡ leaves → does defs' b ≡ leaves
wide_over defs defs' same does b h = subst (λ (ds : List Def). does ds b ≡ leaves) same h

-- what comes of the first of these rules
abbrev after_first : List (Branch → Attempt Move) → Branch → Attempt Move → Attempt Move
after_first rs b x = elim x [ none ↦ first_rule rs b | leaves ↦ leaves | gives m ↦ gives m ]

-- of the rules of a table from its place i on: what all give, where they are tried on a branch that stands for the first one still
module _ {R : Type 0} (does : R → Branch → Attempt Move) (rs : List R) (i : ℕ) (d : R) (us : List Tree) (b c : Branch) (all : Attempt Move)
    (within : i < length rs) (ahead : first_rule (map does (drop i rs)) b ≡ all) (same : c ≡ b) where
  from_here : (x : Attempt Move) → does (get_or rs i d) c ≡ x → all ≡ after_first (map does (drop (i + 1) rs)) b x
  from_here x h = sym ahead ∙ ap (λ qs. first_rule (map does qs) b) (drop_more rs i d within) ∙ ap (after_first (map does (drop (i + 1) rs)) b) (ap (does (get_or rs i d)) (sym same) ∙ h)

  pub rule_leaves : does (get_or rs i d) c ≡ leaves → all ≡ leaves
  rule_leaves h = from_here leaves h

  pub rule_gives : (a : tried.Attempt) (m : made.Move) → a ≡ come.Gives m → TriesAt us c (Ok a) (does (get_or rs i d) c) → IsMoveOver us (move_seen m) × (all ≡ gives (move_at us (move_seen m)))
  rule_gives a m is h = let both = subst (λ (o : tried.Attempt). TriesAt us c (Ok o) (does (get_or rs i d) c)) is h in (both.0, from_here (gives (move_at us (move_seen m))) both.1)

  pub rule_passes : (a : tried.Attempt) (s : NumberedBranch) → a ≡ come.Passes s → TriesAt us c (Ok a) (does (get_or rs i d) c) → (first_rule (map does (drop (i + 1) rs)) b ≡ all) × IsBranchAt us s b
  rule_passes a s is h = let both = subst (λ (o : tried.Attempt). TriesAt us c (Ok o) (does (get_or rs i d) c)) is h in (sym (from_here none both.1), (both.0.0, both.0.1 ∙ same))
