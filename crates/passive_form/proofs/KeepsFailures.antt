-- Each failing run of a graph that may be passified has an assignment of incarnations that breaks the same assertion along the same path.
use Rattle.std.specs.Prelude.{◌≡◌, refl, ℕ, ◌<◌, ◌≤◌, true, List, [], length, Option, Some, None, IsSome, All, Contains}
use Rattle.std.proofs.Common.{arith, ap, ◌∙◌, subst}
use Rattle.std.proofs.lemmas.Bool.{cases_lt}
use Rattle.std.proofs.lemmas.List.{get_or_past}
use mathlib.Core.Logic.{inl, inr}
use Rattle.logic_core.specs.Tree.{Kind}
use Rattle.logic_core.specs.Def.{Def}
use Rattle.logic_core.specs.Value.{are_of, at}
use Rattle.flow_core.specs.declared.mark.GoalKind.{GoalKind}
use Rattle.flow_core.specs.declared.mark.Mark.{Mark}
use Rattle.flow_core.specs.declared.block.LoopHead.{LoopHead}
use Rattle.flow_core.specs.declared.block.Block.{Block}
use Rattle.flow_core.specs.State.{State}
use Rattle.flow_core.specs.Clause.{Breaks}
use Rattle.flow_core.specs.Graph.{Graph, block_at}
use Rattle.flow_core.specs.Run.{Position, arrival, within, clauses_at, IsUntouched, enter, assert_holds, assume_holds, assigned, havocked, follow, Failure, invariant_breaks, assert_breaks, Run, stay, go, path}
use Rattle.passive_form.specs.Incarnations.{first_incarnation}
use Rattle.passive_form.specs.Kept.{MayBePassified, PassifyKeepsFailures}
use Rattle.passive_form.proofs.Lists.{prefix_itself, contains_none}
use Rattle.passive_form.proofs.Values.{at_kept, are_length}
use Rattle.passive_form.proofs.Commands.{no_block}
use Rattle.passive_form.proofs.DoneBlocks.{at_first}
use Rattle.passive_form.proofs.Begins.{first_value}
use Rattle.passive_form.proofs.Course.{FromArrival, FromWithin, enters, fails, asserts, assumes, assigns, havocs, follows}

no_head : (o : Option LoopHead) (defs : List Def) (σ : State) (kind : GoalKind) (m : Mark) → (IsSome o → ⊥) → Breaks defs σ (clauses_at kind o) m → ⊥
no_head None defs σ kind m n b = b
no_head (Some h) defs σ kind m n b = n refl

module _ (defs : List Def) (vars : List Kind) (g : Graph) (may : MayBePassified defs vars g) (m : Mark) where
  headless : (b : ℕ) (σ : State) (kind : GoalKind) → Breaks defs σ (clauses_at kind (block_at g.blocks b).head) m → ⊥
  headless b σ kind broken = no_head (block_at g.blocks b).head defs σ kind m
      (λ h. let r = (may.plain.heads b h).reached_again in let low : r.0 < b = may.rising r.0 b r.2 in let high : b ≤ r.0 = r.1 in absurd (omega arith)) broken

  -- a block with no commands and no edges ends no failing run
  abbrev Goes : Position → Type 0
  Goes (arrival kind b σ) = (block_at g.blocks b).commands ≡ [] → (block_at g.blocks b).next ≡ [] → ⊥
  Goes (within b cs σ) = cs ≡ [] → (block_at g.blocks b).next ≡ [] → ⊥

  fails_somewhere : {p : Position} → Failure defs vars g p m → Goes p
  fails_somewhere (invariant_breaks {kind = kind} {b = b} {σ = σ} h) = λ c n. headless b σ kind h
  fails_somewhere (assert_breaks h) = λ c n. absurd (cc)

  goes : {p q : Position} (r : Run defs vars g p q) → Failure defs vars g q m → Goes p
  goes stay f = fails_somewhere f
  goes (go (enter h) r) f = goes r f
  goes (go (assert_holds h) r) f = λ c n. absurd (cc)
  goes (go (assume_holds h) r) f = λ c n. absurd (cc)
  goes (go (assigned vs h k) r) f = λ c n. absurd (cc)
  goes (go (havocked vs h) r) f = λ c n. absurd (cc)
  goes (go (follow c e) r) f = λ z n. contains_none c (subst (λ l. Contains l c) n e)

  module _ (σ₀ : State) (are₀ : are_of vars σ₀ ≡ true) (untouched : All (IsUntouched g) defs) (olds : All (λ p. at σ₀ p.1 ≡ at σ₀ p.0) g.olds) where
    abbrev From : Position → List ℕ → Type 0
    From (arrival kind b σ) ps = FromArrival defs vars g may σ₀ are₀ untouched olds m b σ ps
    From (within b cs σ) ps = FromWithin defs vars g may σ₀ are₀ untouched olds m b cs σ ps

    from_failure : {p : Position} → Failure defs vars g p m → From p []
    from_failure (invariant_breaks {kind = kind} {b = b} {σ = σ} h) = absurd (headless b σ kind h)
    from_failure (assert_breaks {b = b} {E = E} {cs = cs} {σ = σ} h) = fails defs vars g may σ₀ are₀ untouched olds m b E cs σ h

    course : {p q : Position} (r : Run defs vars g p q) → Failure defs vars g q m → From p (path defs vars g r)
    course stay f = from_failure f
    course (go (enter {b = b} {σ = σ} h) r) f = enters defs vars g may σ₀ are₀ untouched olds m b σ (path defs vars g r) (course r f)
    course (go (assert_holds {b = b} {m = n} {E = E} {cs = cs} {σ = σ} h) r) f = asserts defs vars g may σ₀ are₀ untouched olds m b n E cs σ (path defs vars g r) h (course r f)
    course (go (assume_holds {b = b} {E = E} {cs = cs} {σ = σ} h) r) f = assumes defs vars g may σ₀ are₀ untouched olds m b E cs σ (path defs vars g r) h (course r f)
    course (go (assigned {b = b} {ps = ps} {cs = cs} {σ = σ} vs h k) r) f = assigns defs vars g may σ₀ are₀ untouched olds m b ps cs σ (path defs vars g r) vs h k (course r f)
    course (go (havocked {b = b} {xs = xs} {cs = cs} {σ = σ} vs h) r) f = havocs defs vars g may σ₀ are₀ untouched olds m b xs cs σ (path defs vars g r) vs h (course r f)
    course (go (follow {b = b} {σ = σ} c e) r) f = follows defs vars g may σ₀ are₀ untouched olds m b c σ (path defs vars g r) e (course r f)

pub passify_keeps_failures : PassifyKeepsFailures
passify_keeps_failures defs vars g may σ m f =
    let are : are_of vars σ ≡ true = f.begins.sorted in
    let there : 0 < length g.blocks = elim (cases_lt 0 (length g.blocks)) [
      | inl l ↦ l
      | inr z ↦ let none : block_at g.blocks 0 ≡ no_block = get_or_past g.blocks 0 no_block z in absurd (goes defs vars g may m f.run f.failure (ap (λ (k : Block). k.commands) none) (ap (λ (k : Block). k.next) none))
    ] in
    let o = course defs vars g may m σ are f.untouched f.begins.entry_values f.run f.failure 0 vars [] σ (at_first g vars) (omega arith) there are (prefix_itself σ) (record { are = are; kept = λ v l n. refl }) (inl (refl, refl)) in
    record {
      frees = o.out.frees;
      sorted = o.out.are;
      first = λ v l.
          let r = first_value defs vars g may σ are f.untouched f.begins.entry_values v l in
          at_kept σ o.out.frees (first_incarnation g v) o.out.begins (subst (λ n. first_incarnation g v < n) (are_length vars σ are) r.0) ∙ r.1;
      block = o.out.block;
      place = o.out.place;
      breaks = o.out.breaks;
    }
